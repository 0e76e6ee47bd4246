-- The histories of clients' connections in the worlds that serve them, step by step.
use Rattle.std.proofs.Common.{◌≡◌, ◌==◌, ◌≤◌, ◌+◌, ◌∙◌, ℕ, Bool, true, false, ◌||◌, List, [], ◌++◌, Option, None, Some}
use Rattle.std.proofs.Common.{refl, sym, ap, subst, arith, append-nil, if◌then◌else◌}
use Rattle.std.specs.Prelude.{◌≢◌}
use Rattle.std.proofs.lemmas.Bool.Decides.{nat_tests}
use Rattle.iol_system.specs.Machine.{SystemState}
use Rattle.iol_proc.specs.Turns.{TransitionRelation}
use Rattle.iol_proc.specs.World.{WorldState}
use Rattle.iol_core.specs.declared.descriptors.How.{How}
use Rattle.iol_reactor.specs.LinkSteps.{ReportsEnd, ReportsEndIn}
use Rattle.iol_reactor.specs.Serving.{EndsIn}
use Rattle.iol_reactor.specs.Visits.{VisitsAdvance, VisitsStay}
use Rattle.iol_reactor.specs.LinkVisits.{HasLinkVisited, IsVisitOf, LinkProceeds, LinksStay, Serving, SlotProceeds}
use Rattle.iol_reactor.specs.declared.links.Link.{Link}

-- the world chosen by two tests: the current one, or the one before
abbrev which : {P : Type 0}
    → (is_current is_before : Bool) (w : WorldState SystemState P) (before : Option (WorldState SystemState P))
    → Option (WorldState SystemState P)
which is_current is_before w before = if is_current then Some w else (if is_before then before else None)

link_equal : (l d : Link) → l.conn ≡ d.conn → l.generation ≡ d.generation → l ≡ d
link_equal l d same both =
    let f : ℕ → Link = λ x. record { conn = x; generation = l.generation } in
    let g : ℕ → Link = λ x. record { conn = d.conn; generation = x } in
    ap f same ∙ ap g both

-- connections of one world differ by their numbers
conns_differ : (d l : Link) (n : ℕ) → l ≢ d → (d.generation == n) ≡ true → (l.generation == n) ≡ true → d.conn ≢ l.conn
conns_differ d l n apart of other =
    λ equal. apart (let same : l.generation ≡ d.generation = grind (arith, nat_tests, of, other) in
    link_equal l d (sym equal) same)

conns_before : (d l : Link) (n : ℕ) → l ≢ d → (d.generation + 1 == n) ≡ true → (l.generation + 1 == n) ≡ true
    → d.conn ≢ l.conn
conns_before d l n apart of other =
    λ equal. apart (let same : l.generation ≡ d.generation = grind (arith, nat_tests, of, other) in
    link_equal l d (sym equal) same)

module _ {P : Type 0} (turns : TransitionRelation P) (starts : WorldState SystemState P → Type 0) (pool : ℕ) where
  -- a step of the current world that leaves every history unchanged
  stays_current : (b e : Bool) (w after : WorldState SystemState P) (before : Option (WorldState SystemState P)) (c : ℕ)
      (came sent : List ℕ) (gone : Bool) → VisitsStay turns starts pool w after
      → IsVisitOf turns starts pool (which b e w before) c came sent gone
      → IsVisitOf turns starts pool (which b e after before) c came sent gone
  stays_current true e w after before c came sent gone stay v = stay c came sent gone v
  stays_current false e w after before c came sent gone stay v = v

  -- a step of the world before
  stays_before : (b e : Bool) (w u after : WorldState SystemState P) (c : ℕ) (came sent : List ℕ) (gone : Bool)
      → VisitsStay turns starts pool u after
      → IsVisitOf turns starts pool (which b e w (Some u)) c came sent gone
      → IsVisitOf turns starts pool (which b e w (Some after)) c came sent gone
  stays_before true e w u after c came sent gone stay v = v
  stays_before false true w u after c came sent gone stay v = stay c came sent gone v
  stays_before false false w u after c came sent gone stay v = v

  -- the world before is dropped
  is_lost : (before : Option (WorldState SystemState P)) (c : ℕ) (came sent : List ℕ) (gone : Bool)
      → IsVisitOf turns starts pool before c came sent gone → IsVisitOf turns starts pool None c came sent gone
  is_lost None c came sent gone v = v
  is_lost (Some w) c came sent gone v = (w, v)

  stays_dropped : (b e : Bool) (w : WorldState SystemState P) (before : Option (WorldState SystemState P)) (c : ℕ)
      (came sent : List ℕ) (gone : Bool)
      → IsVisitOf turns starts pool (which b e w before) c came sent gone
      → IsVisitOf turns starts pool (which b e w None) c came sent gone
  stays_dropped true e w before c came sent gone v = v
  stays_dropped false true w before c came sent gone v = is_lost before c came sent gone v
  stays_dropped false false w before c came sent gone v = v

  pub links_same : (s : Serving P) → LinksStay turns starts pool s s
  links_same s = λ l came sent gone up v. v

  pub links_current : (n : ℕ) (w after : WorldState SystemState P) (before : Option (WorldState SystemState P))
      → VisitsStay turns starts pool w after
      → LinksStay turns starts pool (record { number = n; current = w; before = before })
      (record { number = n; current = after; before = before })
  links_current n w after before stay =
      λ l came sent gone up v. stays_current (l.generation == n) (l.generation + 1 == n) w after before l.conn came sent
      gone stay v

  pub links_before : (n : ℕ) (w u after : WorldState SystemState P) → VisitsStay turns starts pool u after
      → LinksStay turns starts pool (record { number = n; current = w; before = Some u })
      (record { number = n; current = w; before = Some after })
  links_before n w u after stay =
      λ l came sent gone up v. stays_before (l.generation == n) (l.generation + 1 == n) w u after l.conn came sent gone
      stay v

  pub links_dropped : (n : ℕ) (w : WorldState SystemState P) (before : Option (WorldState SystemState P))
      → LinksStay turns starts pool (record { number = n; current = w; before = before })
      (record { number = n; current = w; before = None })
  links_dropped n w before = λ l came sent gone up v. stays_dropped (l.generation == n) (l.generation + 1 == n) w before
      l.conn came sent gone v

  pub links_then : (s t u : Serving P) → s.number ≤ t.number → LinksStay turns starts pool s t
      → LinksStay turns starts pool t u → LinksStay turns starts pool s u
  links_then s t u more first next =
      λ l came sent gone up v. next l came sent gone (omega (arith, more, up)) (first l came sent gone up v)

  -- a new world is the current one
  renewed : (is next later : Bool) (w new : WorldState SystemState P) (before : Option (WorldState SystemState P))
      (c : ℕ)
      (came sent : List ℕ) (gone : Bool) → later ≡ false
      → IsVisitOf turns starts pool (which is next w before) c came sent gone
      → IsVisitOf turns starts pool (which later is new (Some w)) c came sent gone
  renewed true next false w new before c came sent gone none v = v
  renewed false true false w new before c came sent gone none v = is_lost before c came sent gone v
  renewed false false false w new before c came sent gone none v = v
  renewed is next true w new before c came sent gone none v = absurd (cc (none))

  pub links_renewed : (n : ℕ) (w new : WorldState SystemState P) (before : Option (WorldState SystemState P))
      → LinksStay turns starts pool (record { number = n; current = w; before = before })
      (record { number = n + 1; current = new; before = Some w })
  links_renewed n w new before = λ l came sent gone up v. (
      let same : (l.generation + 1 == n + 1) ≡ (l.generation == n) = grind (arith, nat_tests) in
      let none : (l.generation == n + 1) ≡ false = grind (arith, nat_tests, up) in
      subst (λ (b : Bool). IsVisitOf turns starts pool (which (l.generation == n + 1) b new (Some w)) l.conn came sent
      gone) (sym same)
      (renewed (l.generation == n) (l.generation + 1 == n) (l.generation == n + 1) w new before l.conn came sent gone
      none v))

  pub links_renewed_as : (n m : ℕ) (w current : WorldState SystemState P)
      (before retiring : Option (WorldState SystemState P))
      → m ≡ n + 1 → retiring ≡ Some w
      → LinksStay turns starts pool (record { number = n; current = w; before = before })
      (record { number = m; current = current; before = retiring })
  links_renewed_as n m w current before retiring more is =
      subst (λ (k : ℕ). LinksStay turns starts pool (record { number = n; current = w; before = before })
      (record { number = k; current = current; before = retiring })) (sym more)
      (subst
      (λ (b : Option (WorldState SystemState P)). LinksStay turns starts pool
      (record { number = n; current = w; before = before })
      (record { number = n + 1; current = current; before = b })) (sym is)
      (links_renewed n w current before))

  -- ---- a step of one connection

  own_current : (b e : Bool) (w after : WorldState SystemState P) (before : Option (WorldState SystemState P)) (c : ℕ)
      (came sent more next : List ℕ) (gone last : Bool) → b ≡ true
      → VisitsAdvance turns starts pool c more next last w after
      → IsVisitOf turns starts pool (which b e w before) c came sent gone
      → IsVisitOf turns starts pool (which b e after before) c (came ++ more) (sent ++ next) (gone || last)
  own_current true e w after before c came sent more next gone last is goes v = goes.own came sent gone v
  own_current false e w after before c came sent more next gone last is goes v = absurd (cc (is))

  other_current : (b e : Bool) (w after : WorldState SystemState P) (before : Option (WorldState SystemState P))
      (d c : ℕ)
      (came sent more next : List ℕ) (gone last : Bool) → (b ≡ true → d ≢ c)
      → VisitsAdvance turns starts pool d more next last w after
      → IsVisitOf turns starts pool (which b e w before) c came sent gone
      → IsVisitOf turns starts pool (which b e after before) c came sent gone
  other_current true e w after before d c came sent more next gone last apart goes v =
      goes.others c came sent gone (apart refl) v
  other_current false e w after before d c came sent more next gone last apart goes v = v

  pub link_current : (n : ℕ) (w after : WorldState SystemState P) (before : Option (WorldState SystemState P))
      (d : Link)
      (more next : List ℕ) (last : Bool) → (d.generation == n) ≡ true
      → VisitsAdvance turns starts pool d.conn more next last w after
      → LinkProceeds turns starts pool d more next last (record { number = n; current = w; before = before })
      (record { number = n; current = after; before = before })
  link_current n w after before d more next last is goes = record {
    own = λ came sent gone v. own_current (d.generation == n) (d.generation + 1 == n) w after before d.conn came sent
        more next gone last is goes v;
    others = λ l came sent gone apart v. other_current (l.generation == n) (l.generation + 1 == n) w after before d.conn
        l.conn came sent more next gone last (λ of. conns_differ d l n apart is of) goes v;
  }

  own_before : (b e : Bool) (w u after : WorldState SystemState P) (c : ℕ) (came sent more next : List ℕ)
      (gone last : Bool)
      → b ≡ false → e ≡ true
      → VisitsAdvance turns starts pool c more next last u after
      → IsVisitOf turns starts pool (which b e w (Some u)) c came sent gone
      → IsVisitOf turns starts pool (which b e w (Some after)) c (came ++ more) (sent ++ next) (gone || last)
  own_before false true w u after c came sent more next gone last off is goes v = goes.own came sent gone v
  own_before false false w u after c came sent more next gone last off is goes v = absurd (cc (is))
  own_before true e w u after c came sent more next gone last off is goes v = absurd (cc (off))

  other_before : (b e : Bool) (w u after : WorldState SystemState P) (d c : ℕ) (came sent more next : List ℕ)
      (gone last : Bool) → (e ≡ true → d ≢ c)
      → VisitsAdvance turns starts pool d more next last u after
      → IsVisitOf turns starts pool (which b e w (Some u)) c came sent gone
      → IsVisitOf turns starts pool (which b e w (Some after)) c came sent gone
  other_before true e w u after d c came sent more next gone last apart goes v = v
  other_before false true w u after d c came sent more next gone last apart goes v =
      goes.others c came sent gone (apart refl) v
  other_before false false w u after d c came sent more next gone last apart goes v = v

  pub link_before : (n : ℕ) (w u after : WorldState SystemState P) (d : Link) (more next : List ℕ) (last : Bool)
      → (d.generation == n) ≡ false → (d.generation + 1 == n) ≡ true
      → VisitsAdvance turns starts pool d.conn more next last u after
      → LinkProceeds turns starts pool d more next last (record { number = n; current = w; before = Some u })
      (record { number = n; current = w; before = Some after })
  link_before n w u after d more next last off is goes = record {
    own = λ came sent gone v. own_before (d.generation == n) (d.generation + 1 == n) w u after d.conn came sent more
        next gone last off is goes v;
    others = λ l came sent gone apart v. other_before (l.generation == n) (l.generation + 1 == n) w u after d.conn
        l.conn came sent more next gone last (λ of. conns_before d l n apart is of) goes v;
  }

  -- the history of a connection, with no bytes appended
  keeps_visit : (s : Serving P) (l : Link) (came sent : List ℕ) (gone : Bool)
      → HasLinkVisited turns starts pool s l came sent gone
      → HasLinkVisited turns starts pool s l (came ++ []) (sent ++ []) (gone || false)
  keeps_visit s l came sent gone v =
      subst (λ (xs : List ℕ). HasLinkVisited turns starts pool s l xs (sent ++ []) (gone || false))
      (sym (append-nil came))
      (subst (λ (xs : List ℕ). HasLinkVisited turns starts pool s l came xs (gone || false)) (sym (append-nil sent))
      (subst (λ (b : Bool). HasLinkVisited turns starts pool s l came sent b) (sym (or-false gone)) v))
    where
      or-false : (b : Bool) → (b || false) ≡ b
      or-false true = refl
      or-false false = refl

  pub link_same : (s : Serving P) (d : Link) → LinkProceeds turns starts pool d [] [] false s s
  link_same s d = record {
    own = λ came sent gone v. keeps_visit s d came sent gone v;
    others = λ l came sent gone apart v. v;
  }

-- ---- the connection of a client that may have none

module _ {P : Type 0} (turns : TransitionRelation P) (starts : WorldState SystemState P → Type 0) where
  pub slot_same : (pool : ℕ) (s : Serving P) (o : Option Link) → SlotProceeds turns starts pool o [] [] false s s
  slot_same pool s None = links_same turns starts pool s
  slot_same pool s (Some d) = link_same turns starts pool s d

  pub slot_current : (pool n : ℕ) (w after : WorldState SystemState P) (before : Option (WorldState SystemState P))
      (o : Option Link) (d : Link) (e : ℕ) (more next : List ℕ) (last : Bool) → o ≡ Some d → e ≡ d.conn
      → (d.generation == n) ≡ true → VisitsAdvance turns starts pool e more next last w after
      → SlotProceeds turns starts pool o more next last (record { number = n; current = w; before = before })
      (record { number = n; current = after; before = before })
  slot_current pool n w after before o d e more next last has same is goes =
      subst
      (λ (x : Option Link). SlotProceeds turns starts pool x more next last
      (record { number = n; current = w; before = before })
      (record { number = n; current = after; before = before })) (sym has)
      (link_current turns starts pool n w after before d more next last is
      (subst (λ (k : ℕ). VisitsAdvance turns starts pool k more next last w after) same goes))

  pub slot_before : (pool n : ℕ) (w u after : WorldState SystemState P) (before : Option (WorldState SystemState P))
      (o : Option Link) (d : Link) (e : ℕ) (more next : List ℕ) (last : Bool) → o ≡ Some d → e ≡ d.conn
      → before ≡ Some u
      → (d.generation == n) ≡ false → (d.generation + 1 == n) ≡ true
      → VisitsAdvance turns starts pool e more next last u after
      → SlotProceeds turns starts pool o more next last (record { number = n; current = w; before = before })
      (record { number = n; current = w; before = Some after })
  slot_before pool n w u after before o d e more next last has same there off is goes =
      subst (λ (b : Option (WorldState SystemState P)). SlotProceeds turns starts pool o more next last
      (record { number = n; current = w; before = b }) (record { number = n; current = w; before = Some after }))
      (sym there)
      (subst
      (λ (x : Option Link). SlotProceeds turns starts pool x more next last
      (record { number = n; current = w; before = Some u })
      (record { number = n; current = w; before = Some after })) (sym has)
      (link_before turns starts pool n w u after d more next last off is
      (subst (λ (k : ℕ). VisitsAdvance turns starts pool k more next last u after) same goes)))

-- ---- the end of a peer is reported

module _ {P : Type 0} (turns : TransitionRelation P) where
  ends_current : (b e : Bool) (w after : WorldState SystemState P) (before : Option (WorldState SystemState P)) (c : ℕ)
      (how : How)
      → b ≡ true → EndsIn turns c how w after
      → ReportsEndIn turns (which b e w before) (which b e after before) c how
  ends_current true e w after before c how is ends = ends
  ends_current false e w after before c how is ends = absurd (cc (is))

  ends_before : (b e : Bool) (w u after : WorldState SystemState P) (c : ℕ) (how : How) → b ≡ false → e ≡ true
      → EndsIn turns c how u after
      → ReportsEndIn turns (which b e w (Some u)) (which b e w (Some after)) c how
  ends_before false true w u after c how off is ends = ends
  ends_before false false w u after c how off is ends = absurd (cc (is))
  ends_before true e w u after c how off is ends = absurd (cc (off))

  ends_nowhere : (b e : Bool) (w : WorldState SystemState P) (before : Option (WorldState SystemState P)) (c : ℕ)
      (how : How)
      → b ≡ false → (e ≡ true → before ≡ None)
      → ReportsEndIn turns (which b e w before) (which b e w before) c how
  ends_nowhere true e w before c how off none = absurd (cc (off))
  ends_nowhere false false w before c how off none = tt
  ends_nowhere false true w before c how off none =
      subst (λ (k : Option (WorldState SystemState P)). ReportsEndIn turns k k c how) (sym (none refl)) tt

  pub reports_current : (how : How) (n : ℕ) (w after : WorldState SystemState P)
      (before : Option (WorldState SystemState P))
      (o : Option Link) (d : Link) (e : ℕ) → o ≡ Some d → e ≡ d.conn → (d.generation == n) ≡ true
      → EndsIn turns e how w after
      → ReportsEnd turns o how (record { number = n; current = w; before = before })
      (record { number = n; current = after; before = before })
  reports_current how n w after before o d e has same is ends =
      subst
      (λ (x : Option Link). ReportsEnd turns x how (record { number = n; current = w; before = before })
      (record { number = n; current = after; before = before })) (sym has)
      (ends_current (d.generation == n) (d.generation + 1 == n) w after before d.conn how is
      (subst (λ (k : ℕ). EndsIn turns k how w after) same ends))

  pub reports_before : (how : How) (n : ℕ) (w u after : WorldState SystemState P)
      (before : Option (WorldState SystemState P))
      (o : Option Link) (d : Link) (e : ℕ) → o ≡ Some d → e ≡ d.conn → before ≡ Some u
      → (d.generation == n) ≡ false → (d.generation + 1 == n) ≡ true → EndsIn turns e how u after
      → ReportsEnd turns o how (record { number = n; current = w; before = before })
      (record { number = n; current = w; before = Some after })
  reports_before how n w u after before o d e has same there off is ends =
      subst
      (λ (b : Option (WorldState SystemState P)). ReportsEnd turns o how
      (record { number = n; current = w; before = b })
      (record { number = n; current = w; before = Some after })) (sym there)
      (subst
      (λ (x : Option Link). ReportsEnd turns x how (record { number = n; current = w; before = Some u })
      (record { number = n; current = w; before = Some after })) (sym has)
      (ends_before (d.generation == n) (d.generation + 1 == n) w u after d.conn how off is
      (subst (λ (k : ℕ). EndsIn turns k how u after) same ends)))

  -- the world of the connection no longer serves
  pub reports_nowhere : (how : How) (n : ℕ) (w : WorldState SystemState P) (before : Option (WorldState SystemState P))
      (o : Option Link) (d : Link) → o ≡ Some d → (d.generation == n) ≡ false
      → ((d.generation + 1 == n) ≡ true → before ≡ None)
      → ReportsEnd turns o how (record { number = n; current = w; before = before })
      (record { number = n; current = w; before = before })
  reports_nowhere how n w before o d has off none =
      subst
      (λ (x : Option Link). ReportsEnd turns x how (record { number = n; current = w; before = before })
      (record { number = n; current = w; before = before })) (sym has)
      (ends_nowhere (d.generation == n) (d.generation + 1 == n) w before d.conn how off none)

  -- a client that has no connection
  pub reports_none : (how : How) (s : Serving P) (o : Option Link) → o ≡ None → ReportsEnd turns o how s s
  reports_none how s o none = subst (λ (x : Option Link). ReportsEnd turns x how s s) (sym none) tt
