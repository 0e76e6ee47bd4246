-- The history of a client, step by step.
use Rattle.std.proofs.Common.{◌≡◌, ◌∙◌, ◌<◌, ◌≤◌, ◌+◌, ◌==◌, ℕ, zero, suc, Bool, true, false, List, [], ◌∷◌, ◌++◌}
use Rattle.std.proofs.Common.{length, take, drop, get_or, set, Option, None, Some, Result, Ok, Err, OnOk, OnErr, is_ok}
use Rattle.std.proofs.Common.{if◌then◌else◌, inl, inr, refl, sym, ap, subst, arith, append_assoc, append-nil}
use Rattle.std.specs.Prelude.{◌≢◌, ◌⊎◌, IfSome, IsSome, is_some}
use Rattle.std.specs.Io.KnownBytes.{Appends, Keeps}
use Rattle.std.proofs.Math.Logic.{∥∥₁_map, ∥∥₁_map₂}
use Rattle.std.proofs.lemmas.Bool.{cases_eq}
use Rattle.std.proofs.lemmas.Bool.Decides.{nat_tests}
use Rattle.std.proofs.lemmas.List.{append_cancel_left, drop-append-le, get_or-set_same, get_or-set_other}
use Rattle.std.proofs.lemmas.List.{take-append-drop}
use Rattle.iol_system.specs.Machine.{SystemState}
use Rattle.iol_proc.specs.Turns.{TransitionRelation}
use Rattle.iol_proc.specs.World.{WorldState}
use Rattle.iol_reactor.specs.Bytes.{Gains, Grows, IsBegun, IsFinished, IsGiven, Passes, PassesSome, unsent_of}
use Rattle.iol_reactor.specs.Bytes.{waiting_of}
use Rattle.iol_reactor.specs.Clients.{Holds, IsAsking, IsOpen, Visit, WereLeft, frame_as}
use Rattle.iol_reactor.specs.Connections.{AreApart, HaveCome, has_come, link_at}
use Rattle.iol_reactor.specs.Visits.{HasVisited}
use Rattle.iol_reactor.specs.LinkVisits.{HasLinkVisited, IsOver, IsVisitOf, LinksStay, Serving}
use Rattle.iol_reactor.specs.LinkVisits.{SlotProceeds, world_of}
use Rattle.iol_reactor.specs.Served.{AreFollowed, AreKnown, HasHistory, HasKnownHistory, IsAskingAt, IsBetween}
use Rattle.iol_reactor.specs.Served.{IsCompleted, IsEmpty, IsFollowed, IsInPhase, IsLast, IsOpenAt, IsServed}
use Rattle.iol_reactor.specs.Served.{IsServedToClose, IsServedToEnd, IsServedWhole, IsWithin, is_ending, is_free}
use Rattle.iol_reactor.specs.declared.client.Client.{Client}
use Rattle.iol_reactor.specs.declared.client.Phase.{Phase}
use Rattle.iol_reactor.specs.declared.client.Phase.TheVariants as phase
use Rattle.iol_reactor.specs.declared.input.Input.{Input}
use Rattle.iol_reactor.specs.declared.links.Link.{Link}
use Rattle.iol_reactor.specs.declared.links.Links.{Links}
use Rattle.iol_reactor.specs.declared.service.Frame.{Frame}
use Rattle.iol_reactor.specs.declared.service.Frame.TheVariants as frame
use Rattle.iol_reactor.proofs.Bytes.{grows_none, keeps_same}
use Rattle.iol_reactor.proofs.Clients.{bytes_move, connections_follow, given_more}

-- ---- the bytes of a socket

keeps_known : (old now : Option (List ℕ)) (xs : List ℕ) → old ≡ Some xs → Keeps old now → now ≡ Some xs
keeps_known None now xs e k = absurd (cc e)
keeps_known (Some ys) None xs e k = absurd k
keeps_known (Some ys) (Some zs) xs e k = cc (e, k)

appends_known : (old now : Option (List ℕ)) (xs more : List ℕ) → old ≡ Some xs → Appends old now more
    → now ≡ Some (xs ++ more)
appends_known None now xs more e a = absurd (cc e)
appends_known (Some ys) None xs more e a = absurd a
appends_known (Some ys) (Some zs) xs more e a = cc (e, a)

empty_known : (known : Option (List ℕ)) → IsSome known → IsEmpty known → known ≡ Some []
empty_known None some none = absurd (cc some)
empty_known (Some xs) some none = ap (λ (l : List ℕ). Some l) none

pub keeps_as : (old now : Option (List ℕ)) → now ≡ old → Keeps old now
keeps_as old now same = subst (λ (k : Option (List ℕ)). Keeps old k) (sym same) (keeps_same old)

pub keeps_after : (old mid now : Option (List ℕ)) → mid ≡ old → Keeps mid now → Keeps old now
keeps_after old mid now same keeps = subst (λ (k : Option (List ℕ)). Keeps k now) same keeps

pub grows_same : (old now : Option (List ℕ)) → now ≡ old → Grows old now
grows_same old now same = grows_none old now (keeps_as old now same)

-- ---- the phases

phase_cases : (at : Phase)
    → (is_free at ≡ true) ⊎ ((at ≡ phase.Answering) ⊎ ((is_ending at ≡ true) ⊎ (at ≡ phase.Over)))
phase_cases phase.Parked = inl refl
phase_cases phase.Waiting = inl refl
phase_cases phase.Idle = inl refl
phase_cases phase.Leaving = inl refl
phase_cases phase.Answering = inr (inl refl)
phase_cases phase.Flushing = inr (inr (inl refl))
phase_cases phase.Closing = inr (inr (inl refl))
phase_cases phase.Over = inr (inr (inr refl))

free_ends : (at : Phase) → is_free at ≡ true → is_ending at ≡ true → ⊥
free_ends phase.Parked f e = cc e
free_ends phase.Waiting f e = cc e
free_ends phase.Idle f e = cc e
free_ends phase.Leaving f e = cc e
free_ends phase.Answering f e = cc f
free_ends phase.Flushing f e = cc f
free_ends phase.Closing f e = cc f
free_ends phase.Over f e = cc f

-- a phase is not another one, by a test
differs : (test : Phase → Bool) (at is : Phase) → test at ≡ true → test is ≡ false → at ≡ is → ⊥
differs test at is holds fails e = (let same : test at ≡ test is = ap (λ p. test p) e in cc (same, holds, fails))

nothing_left : (xs ys : List ℕ) → xs ++ ys ≡ [] → ys ≡ []
nothing_left [] ys e = e
nothing_left (x ∷ xs) ys e = absurd (cc e)

-- ---- the waiting bytes

waiting_read : (input after : Input) (more : List ℕ) → after.bytes.items ≡ input.bytes.items ++ more
    → after.given ≡ input.given → input.given ≤ length input.bytes.items
    → waiting_of after ≡ waiting_of input ++ more
waiting_read input after more grown given within = ap (λ k. drop k after.bytes.items) given
    ∙ (ap (λ (l : List ℕ). drop input.given l) grown ∙ drop-append-le input.given input.bytes.items more within)

waiting_handed : (input next : Input) (more rest : List ℕ) → input.asked ≤ length input.bytes.items
    → input.given ≤ input.asked → drop input.given (take input.asked input.bytes.items) ≡ more ++ rest
    → IsGiven (length rest) input next → waiting_of input ≡ more ++ waiting_of next
waiting_handed input next more rest within less split is =
    append_cancel_left (take input.given input.bytes.items) (waiting_of input) (more ++ waiting_of next) (
    take-append-drop input.given input.bytes.items ∙ (sym (take-append-drop next.given input.bytes.items)
    ∙ (ap (λ (l : List ℕ). l ++ drop next.given input.bytes.items)
    (given_more input.asked input.given next.given input.bytes.items more rest within less split is.given)
    ∙ (append_assoc (take input.given input.bytes.items) more (drop next.given input.bytes.items)
    ∙ ap (λ (l : List ℕ). take input.given input.bytes.items ++ (more ++ drop next.given l)) (sym is.bytes)))))

-- ---- lists of places

value_of : {X : Type 0} → X → Option X → X
value_of a None = a
value_of a (Some b) = b

some_same : {X : Type 0} (a b : X) → Some a ≡ Some b → a ≡ b
unfolding value_of
some_same a b e = ap (λ o. value_of a o) e

get_or_any : {X : Type 0} (xs : List X) (i : ℕ) (d e : X) → i < length xs → get_or xs i d ≡ get_or xs i e
get_or_any [] i d e h = absurd (omega (arith, h))
get_or_any (x ∷ xs) zero d e h = refl
get_or_any (x ∷ xs) (suc i) d e h = get_or_any xs i d e (omega (arith, h))

pub at_place : {X : Type 0} (xs : List (Option X)) (i : ℕ) (place : Option X) (x : X) → i < length xs
    → place ≡ get_or xs i place → place ≡ Some x → get_or xs i None ≡ Some x
at_place xs i place x within is here = get_or_any xs i None place within ∙ (sym is ∙ here)

set_same : {X : Type 0} (xs : List X) (i : ℕ) (x : X) → i < length xs → x ≡ get_or xs i x → set xs i x ≡ xs
set_same [] i x h is = absurd (omega (arith, h))
set_same (y ∷ ys) zero x h is = ap (λ z. z ∷ ys) is
set_same (y ∷ ys) (suc i) x h is = ap (λ (zs : List _). y ∷ zs) (set_same ys i x (omega (arith, h)) is)

pub none_past : {X : Type 0} (xs : List (Option X)) (i : ℕ) → length xs ≤ i → get_or xs i None ≡ None
none_past [] i h = refl
none_past (x ∷ xs) zero h = absurd (omega (arith, h))
none_past (x ∷ xs) (suc i) h = none_past xs i (omega (arith, h))

-- a place that is emptied, and its previous contents
pub taken_from : {X : Type 0} (xs : List (Option X)) (i : ℕ) (place taken : Option X) → i < length xs
    → place ≡ get_or xs i place → taken ≡ place → taken ≡ get_or xs i None
taken_from xs i place taken within is same = same ∙ (is ∙ get_or_any xs i place None within)

pub emptied : {X : Type 0} (xs : List (Option X)) (i : ℕ) (place : Option X) → i < length xs → place ≡ None
    → get_or (set xs i place) i None ≡ None
emptied xs i place within none = get_or-set_same xs i place None within ∙ none

none_pushed : {X : Type 0} (xs : List (Option X)) (i : ℕ) → get_or (xs ++ None ∷ []) i None ≡ get_or xs i None
none_pushed [] zero = refl
none_pushed [] (suc i) = refl
none_pushed (x ∷ xs) zero = refl
none_pushed (x ∷ xs) (suc i) = none_pushed xs i

-- the table of connections after a step of one of them
pub links_rest : (a b : Links) → a ≡ b → (j : ℕ) → link_at a.table.items j ≡ link_at b.table.items j
links_rest a b same j = ap (λ (k : Links). link_at k.table.items j) same

pub table_rest : (a b : List (Option Link)) → a ≡ b → (j : ℕ) → link_at a j ≡ link_at b j
table_rest a b same j = ap (λ (k : List (Option Link)). link_at k j) same

pub set_rest : (table next : List (Option Link)) (slot : ℕ) (x : Option Link) → next ≡ set table slot x → (j : ℕ)
    → j ≢ slot → link_at next j ≡ link_at table j
set_rest table next slot x same j other = ap (λ (k : List (Option Link)). link_at k j) same
    ∙ get_or-set_other table slot j x None other

none_at : (table : List (Option Link)) (slot : ℕ) → link_at (set table slot None) slot ≡ None
none_at [] slot = refl
none_at (x ∷ xs) zero = refl
none_at (x ∷ xs) (suc i) = none_at xs i

pub released_at : (table next : List (Option Link)) (slot : ℕ) → next ≡ set table slot None → link_at next slot ≡ None
released_at table next slot same = ap (λ (k : List (Option Link)). link_at k slot) same ∙ none_at table slot

pub place_rest : {T E : Type 0} (r : Result T E) (table next : List (Option Link)) → OnOk r (next ≡ table ++ None ∷ [])
    → OnErr r (next ≡ table) → (j : ℕ) → link_at next j ≡ link_at table j
place_rest (Ok x) table next more same j = ap (λ (k : List (Option Link)). link_at k j) more ∙ none_pushed table j
place_rest (Err e) table next more same j = ap (λ (k : List (Option Link)). link_at k j) same

-- the generation of a connection that has come is at most the current one
up_to : (generation last : ℕ) (l : Link) → has_come generation last l ≡ true → l.generation ≤ generation
up_to generation last l is = grind (arith, nat_tests, is)

-- ---- the connections

module _ {P : Type 0} (turns : TransitionRelation P) (starts : WorldState SystemState P → Type 0) (frames : List ℕ
    → Frame
    → Type 0) (pool : ℕ) where
  open_kept : (s after : Serving P) (l : Link) (came sent : List ℕ)
      → ((more next : List ℕ) → HasLinkVisited turns starts pool s l more next false
      → HasLinkVisited turns starts pool after l more next false)
      → IsOpen turns starts frames pool s l came sent → IsOpen turns starts frames pool after l came sent
  open_kept s after l came sent stay o = record { visited = stay came sent o.visited; whole = o.whole }

  asking_kept : (s after : Serving P) (l : Link) (is_last : Bool) (input : Input) (came sent : List ℕ)
      → ((more next : List ℕ) → HasLinkVisited turns starts pool s l more next false
      → HasLinkVisited turns starts pool after l more next false)
      → IsAsking turns starts frames pool s l is_last input came sent
      → IsAsking turns starts frames pool after l is_last input came sent
  asking_kept s after l is_last input came sent stay a = record {
    visited = stay came sent a.visited;
    before = a.before;
    whole = a.whole;
    request = a.request;
    framed = a.framed;
    first = a.first;
    within = a.within;
    given = a.given;
    part = a.part;
  }

  -- the history of the connection of a client is the same
  abbrev pub Stays : (s after : Serving P) (o : Option Link) → Type 0
  Stays s after o = (l : Link) → o ≡ Some l → (more next : List ℕ)
      → HasLinkVisited turns starts pool s l more next false → HasLinkVisited turns starts pool after l more next false

  open_at_kept : (s after : Serving P) (o : Option Link) (came sent : List ℕ) → Stays s after o
      → IsOpenAt turns starts frames pool s o came sent → IsOpenAt turns starts frames pool after o came sent
  open_at_kept s after None came sent stay is = is
  open_at_kept s after (Some l) came sent stay is = open_kept s after l came sent (stay l refl) is

  asking_at_kept : (s after : Serving P) (o : Option Link) (is_last : Bool) (input : Input) (came sent : List ℕ)
      → Stays s after o → IsAskingAt turns starts frames pool s o is_last input came sent
      → IsAskingAt turns starts frames pool after o is_last input came sent
  asking_at_kept s after None is_last input came sent stay is = is
  asking_at_kept s after (Some l) is_last input came sent stay is =
      asking_kept s after l is_last input came sent (stay l refl) is

  between_kept : (s after : Serving P) (o : Option Link) (input : Input) (unsent supplied accepted : List ℕ)
      → Stays s after o → IsBetween turns starts frames pool s o input unsent supplied accepted
      → IsBetween turns starts frames pool after o input unsent supplied accepted
  between_kept s after o input unsent supplied accepted stay b = record {
    past_came = b.past_came;
    past_sent = b.past_sent;
    were = b.were;
    came = b.came;
    sent = b.sent;
    is = open_at_kept s after o b.came b.sent stay b.is;
    asked = b.asked;
    given = b.given;
    holds = b.holds;
  }

  within_kept : (s after : Serving P) (o : Option Link) (is_last : Bool) (input : Input)
      (unsent supplied accepted : List ℕ) → Stays s after o
      → IsWithin turns starts frames pool s o is_last input unsent supplied accepted
      → IsWithin turns starts frames pool after o is_last input unsent supplied accepted
  within_kept s after o is_last input unsent supplied accepted stay w = record {
    past_came = w.past_came;
    past_sent = w.past_sent;
    were = w.were;
    came = w.came;
    sent = w.sent;
    is = asking_at_kept s after o is_last input w.came w.sent stay w.is;
    holds = w.holds;
  }

  phase_kept : (s after : Serving P) (o : Option Link) (at : Phase) (is_last is_whole : Bool) (input : Input)
      (unsent supplied accepted : List ℕ) → Stays s after o
      → IsInPhase turns starts frames pool s o at is_last is_whole input unsent supplied accepted
      → IsInPhase turns starts frames pool after o at is_last is_whole input unsent supplied accepted
  phase_kept s after o at is_last is_whole input unsent supplied accepted stay h = record {
    between = λ f. between_kept s after o input unsent supplied accepted stay (h.between f);
    within = λ e. within_kept s after o is_last input unsent supplied accepted stay (h.within e);
    served = h.served;
    over = h.over;
    whole = h.whole;
    all = h.all;
  }

  -- a connection of the current world
  visited_current : (s : Serving P) (l : Link) (came sent : List ℕ) → l.generation ≡ s.number
      → HasVisited turns starts pool l.conn came sent false s.current
      → HasLinkVisited turns starts pool s l came sent false
  visited_current s l came sent own v =
      let is : (l.generation == s.number) ≡ true = grind (arith, nat_tests, own) in
      subst
      (λ (k : Bool). IsVisitOf turns starts pool
      (if k then Some s.current else (if l.generation + 1 == s.number then s.before else None)) l.conn came sent
      false) (sym is) v

  -- histories of connections other than that of a client are the same
  abbrev pub Others : (s after : Serving P) (o : Option Link) → Type 0
  Others s after o = (l : Link) → o ≢ Some l → l.generation ≤ s.number → (came sent : List ℕ)
      → HasLinkVisited turns starts pool s l came sent false → HasLinkVisited turns starts pool after l came sent false

  pub others_goes : (s after : Serving P) (o : Option Link) (more next : List ℕ) (last : Bool)
      → SlotProceeds turns starts pool o more next last s after → Others s after o
  others_goes s after None more next last goes = λ l differ up came sent v. goes l came sent false up v
  others_goes s after (Some d) more next last goes =
      λ l differ up came sent v. goes.others l came sent false (λ e. differ (ap (λ k. Some k) (sym e))) v

  pub others_stay : (s after : Serving P) (o : Option Link) → LinksStay turns starts pool s after → Others s after o
  others_stay s after o stay = λ l differ up came sent v. stay l came sent false up v

  pub others_then : (s t u : Serving P) (o : Option Link) → s.number ≡ t.number → Others s t o → Others t u o
      → Others s u o
  others_then s t u o same first second =
      λ l differ up came sent v. second l differ (subst (λ n. l.generation ≤ n) same up) came sent
      (first l differ up came sent v)

  -- the last connection, in a state of its world
  visit_of : (w : Option (WorldState SystemState P)) (c : ℕ) (came sent : List ℕ)
      → IsVisitOf turns starts pool w c came sent false
      → (v : Visit P) × IsLast turns starts frames pool (Some v) came sent
  visit_of None c came sent v = (record { world = v.0; conn = c; came = came; sent = sent }, (refl, refl, v.1))
  visit_of (Some w) c came sent v = (record { world = w; conn = c; came = came; sent = sent }, (refl, refl, v))

  served_by : (pc ps came sent waiting unsent supplied accepted : List ℕ) (v : Option (Visit P))
      → WereLeft turns starts frames pool pc ps → IsLast turns starts frames pool v came sent
      → Holds pc ps came sent waiting unsent supplied accepted
      → IsServed turns starts frames pool unsent supplied accepted
  served_by pc ps came sent waiting unsent supplied accepted v were last holds = record {
    past_came = pc;
    past_sent = ps;
    were = were;
    visit = v;
    came = came;
    sent = sent;
    last = last;
    waiting = waiting;
    holds = holds;
  }

  served_between : (s : Serving P) (o : Option Link) (input : Input) (unsent supplied accepted : List ℕ)
      → IsBetween turns starts frames pool s o input unsent supplied accepted
      → IsServed turns starts frames pool unsent supplied accepted
  served_between s None input unsent supplied accepted b =
      served_by _ _ _ _ _ unsent supplied accepted None b.were b.is b.holds
  served_between s (Some l) input unsent supplied accepted b =
      let v = visit_of (world_of s l) l.conn b.came b.sent b.is.visited in
      served_by _ _ _ _ _ unsent supplied accepted (Some v.0) b.were v.1 b.holds

  served_within : (s : Serving P) (o : Option Link) (is_last : Bool) (input : Input) (unsent supplied accepted : List ℕ)
      → IsWithin turns starts frames pool s o is_last input unsent supplied accepted
      → IsServed turns starts frames pool unsent supplied accepted
  served_within s None is_last input unsent supplied accepted w = absurd w.is
  served_within s (Some l) is_last input unsent supplied accepted w =
      let v = visit_of (world_of s l) l.conn w.came w.sent w.is.visited in
      served_by _ _ _ _ _ unsent supplied accepted (Some v.0) w.were v.1 w.holds

  -- the history of a client whose unsent bytes are lost
  pub served_of : (s : Serving P) (o : Option Link) (at : Phase) (is_last is_whole : Bool) (input : Input)
      (unsent supplied accepted : List ℕ)
      → IsInPhase turns starts frames pool s o at is_last is_whole input unsent supplied accepted
      → (lost : List ℕ) × IsServed turns starts frames pool lost supplied accepted
  served_of s o at is_last is_whole input unsent supplied accepted h = elim (phase_cases at) [
    | inl f ↦ (unsent, served_between s o input unsent supplied accepted (h.between f))
    | inr (inl e) ↦ (unsent, served_within s o is_last input unsent supplied accepted (h.within e))
    | inr (inr (inl e)) ↦ (unsent, h.served e)
    | inr (inr (inr e)) ↦ h.over e
  ]

  served_read : (unsent supplied accepted more : List ℕ) → IsServed turns starts frames pool unsent supplied accepted
      → IsServed turns starts frames pool unsent (supplied ++ more) accepted
  served_read unsent supplied accepted more v =
      served_by _ _ _ _ (v.waiting ++ more) unsent (supplied ++ more) accepted v.visit v.were v.last
      (bytes_move.read v.past_came v.past_sent v.came v.sent v.waiting unsent supplied accepted more v.holds)

  close_read : (unsent supplied accepted more : List ℕ)
      → IsServedToClose turns starts frames pool unsent supplied accepted
      → IsServedToClose turns starts frames pool unsent (supplied ++ more) accepted
  close_read unsent supplied accepted more v = record {
    past_came = v.past_came;
    past_sent = v.past_sent;
    were = v.were;
    visit = v.visit;
    closed = v.closed;
    waiting = v.waiting ++ more;
    holds = bytes_move.read v.past_came v.past_sent v.visit.came v.visit.sent v.waiting unsent supplied accepted more
        v.holds;
  }

  whole_read : (is_ended now : Bool) (unsent supplied accepted more : List ℕ) → is_ended ≡ false
      → IsServedWhole turns starts frames pool is_ended unsent supplied accepted
      → IsServedWhole turns starts frames pool now unsent (supplied ++ more) accepted
  whole_read is_ended now unsent supplied accepted more still (inl c) = inl (close_read unsent supplied accepted more c)
  whole_read is_ended now unsent supplied accepted more still (inr e) = absurd (cc (e.ended, still))

  -- ---- a phase, by the state of a client in it

  pub in_free : (s : Serving P) (o : Option Link) (at : Phase) (is_last is_whole : Bool) (input : Input)
      (unsent supplied accepted : List ℕ) → is_free at ≡ true
      → IsBetween turns starts frames pool s o input unsent supplied accepted
      → IsInPhase turns starts frames pool s o at is_last is_whole input unsent supplied accepted
  in_free s o at is_last is_whole input unsent supplied accepted f b = record {
    between = λ _. b;
    within = λ e. absurd (differs (λ p. is_free p) at phase.Answering f refl e);
    served = λ e. absurd (free_ends at f e);
    over = λ e. absurd (differs (λ p. is_free p) at phase.Over f refl e);
    whole = λ e _. absurd (free_ends at f e);
    all = λ e. absurd (differs (λ p. is_free p) at phase.Closing f refl e);
  }

  pub in_answering : (s : Serving P) (o : Option Link) (at : Phase) (is_last is_whole : Bool) (input : Input)
      (unsent supplied accepted : List ℕ) → at ≡ phase.Answering
      → IsWithin turns starts frames pool s o is_last input unsent supplied accepted
      → IsInPhase turns starts frames pool s o at is_last is_whole input unsent supplied accepted
  in_answering s o at is_last is_whole input unsent supplied accepted is w = record {
    between = λ f. absurd (differs (λ p. is_free p) at phase.Answering f refl is);
    within = λ _. w;
    served = λ e. absurd (differs (λ p. is_ending p) at phase.Answering e refl is);
    over = λ e. absurd (cc (is, e));
    whole = λ e _. absurd (differs (λ p. is_ending p) at phase.Answering e refl is);
    all = λ e. absurd (cc (is, e));
  }

  pub in_over : (s : Serving P) (o : Option Link) (at : Phase) (is_last is_whole : Bool) (input : Input)
      (unsent lost supplied accepted : List ℕ) → at ≡ phase.Over
      → IsServed turns starts frames pool lost supplied accepted
      → IsInPhase turns starts frames pool s o at is_last is_whole input unsent supplied accepted
  in_over s o at is_last is_whole input unsent lost supplied accepted is v = record {
    between = λ f. absurd (differs (λ p. is_free p) at phase.Over f refl is);
    within = λ e. absurd (cc (is, e));
    served = λ e. absurd (differs (λ p. is_ending p) at phase.Over e refl is);
    over = λ _. (lost, v);
    whole = λ e _. absurd (differs (λ p. is_ending p) at phase.Over e refl is);
    all = λ e. absurd (cc (is, e));
  }

  pub in_ending : (s : Serving P) (o : Option Link) (at : Phase) (is_last is_whole : Bool) (input : Input)
      (unsent supplied accepted : List ℕ) → is_ending at ≡ true
      → IsServed turns starts frames pool unsent supplied accepted
      → (is_whole ≡ true → IsServedWhole turns starts frames pool input.ended unsent supplied accepted)
      → (at ≡ phase.Closing → unsent ≡ [])
      → IsInPhase turns starts frames pool s o at is_last is_whole input unsent supplied accepted
  in_ending s o at is_last is_whole input unsent supplied accepted is v whole all = record {
    between = λ f. absurd (free_ends at f is);
    within = λ e. absurd (differs (λ p. is_ending p) at phase.Answering is refl e);
    served = λ _. v;
    over = λ e. absurd (differs (λ p. is_ending p) at phase.Over is refl e);
    whole = λ _ w. whole w;
    all = all;
  }

  -- ---- steps between requests

  between_read : (s : Serving P) (o : Option Link) (input after : Input) (unsent supplied accepted more : List ℕ)
      → after.bytes.items ≡ input.bytes.items ++ more → after.asked ≡ input.asked → after.given ≡ input.given
      → IsBetween turns starts frames pool s o input unsent supplied accepted
      → IsBetween turns starts frames pool s o after unsent (supplied ++ more) accepted
  between_read s o input after unsent supplied accepted more grown asked given b = record {
    past_came = b.past_came;
    past_sent = b.past_sent;
    were = b.were;
    came = b.came;
    sent = b.sent;
    is = b.is;
    asked = asked ∙ b.asked;
    given = given ∙ b.given;
    holds = subst (λ (k : List ℕ). Holds b.past_came b.past_sent b.came b.sent k unsent (supplied ++ more) accepted)
        (sym grown)
        (bytes_move.read b.past_came b.past_sent b.came b.sent input.bytes.items unsent supplied accepted more b.holds);
  }

  between_flushed : (s : Serving P) (o : Option Link) (input : Input) (unsent left supplied accepted more : List ℕ)
      → unsent ≡ more ++ left
      → IsBetween turns starts frames pool s o input unsent supplied accepted
      → IsBetween turns starts frames pool s o input left supplied (accepted ++ more)
  between_flushed s o input unsent left supplied accepted more split b = record {
    past_came = b.past_came;
    past_sent = b.past_sent;
    were = b.were;
    came = b.came;
    sent = b.sent;
    is = b.is;
    asked = b.asked;
    given = b.given;
    holds = bytes_move.flushed b.past_came b.past_sent b.came b.sent input.bytes.items left supplied accepted more
        (subst (λ (k : List ℕ). Holds b.past_came b.past_sent b.came b.sent input.bytes.items k supplied accepted) split
        b.holds);
  }

  within_flushed : (s : Serving P) (o : Option Link) (is_last : Bool) (input : Input)
      (unsent left supplied accepted more : List ℕ) → unsent ≡ more ++ left
      → IsWithin turns starts frames pool s o is_last input unsent supplied accepted
      → IsWithin turns starts frames pool s o is_last input left supplied (accepted ++ more)
  within_flushed s o is_last input unsent left supplied accepted more split b = record {
    past_came = b.past_came;
    past_sent = b.past_sent;
    were = b.were;
    came = b.came;
    sent = b.sent;
    is = b.is;
    holds = bytes_move.flushed b.past_came b.past_sent b.came b.sent (waiting_of input) left supplied accepted more
        (subst (λ (k : List ℕ). Holds b.past_came b.past_sent b.came b.sent (waiting_of input) k supplied accepted)
        split b.holds);
  }

  served_flushed : (unsent left supplied accepted more : List ℕ) → unsent ≡ more ++ left
      → IsServed turns starts frames pool unsent supplied accepted
      → IsServed turns starts frames pool left supplied (accepted ++ more)
  served_flushed unsent left supplied accepted more split v =
      served_by _ _ _ _ v.waiting left supplied (accepted ++ more) v.visit v.were v.last
      (bytes_move.flushed v.past_came v.past_sent v.came v.sent v.waiting left supplied accepted more
      (subst (λ (k : List ℕ). Holds v.past_came v.past_sent v.came v.sent v.waiting k supplied accepted) split v.holds))

  close_flushed : (unsent left supplied accepted more : List ℕ) → unsent ≡ more ++ left
      → IsServedToClose turns starts frames pool unsent supplied accepted
      → IsServedToClose turns starts frames pool left supplied (accepted ++ more)
  close_flushed unsent left supplied accepted more split v = record {
    past_came = v.past_came;
    past_sent = v.past_sent;
    were = v.were;
    visit = v.visit;
    closed = v.closed;
    waiting = v.waiting;
    holds = bytes_move.flushed v.past_came v.past_sent v.visit.came v.visit.sent v.waiting left supplied accepted more
        (subst (λ (k : List ℕ). Holds v.past_came v.past_sent v.visit.came v.visit.sent v.waiting k supplied accepted)
        split v.holds);
  }

  end_flushed : (is_ended : Bool) (unsent left supplied accepted more : List ℕ) → unsent ≡ more ++ left
      → IsServedToEnd turns starts frames pool is_ended unsent supplied accepted
      → IsServedToEnd turns starts frames pool is_ended left supplied (accepted ++ more)
  end_flushed is_ended unsent left supplied accepted more split v = record {
    past_came = v.past_came;
    past_sent = v.past_sent;
    were = v.were;
    waiting = v.waiting;
    none = v.none;
    ended = v.ended;
    holds = bytes_move.flushed v.past_came v.past_sent [] [] v.waiting left supplied accepted more
        (subst (λ (k : List ℕ). Holds v.past_came v.past_sent [] [] v.waiting k supplied accepted) split v.holds);
  }

  whole_flushed : (is_ended : Bool) (unsent left supplied accepted more : List ℕ) → unsent ≡ more ++ left
      → IsServedWhole turns starts frames pool is_ended unsent supplied accepted
      → IsServedWhole turns starts frames pool is_ended left supplied (accepted ++ more)
  whole_flushed is_ended unsent left supplied accepted more split (inl c) =
      inl (close_flushed unsent left supplied accepted more split c)
  whole_flushed is_ended unsent left supplied accepted more split (inr e) =
      inr (end_flushed is_ended unsent left supplied accepted more split e)

  phase_flushed : (s : Serving P) (o : Option Link) (at : Phase) (is_last is_whole : Bool) (input : Input)
      (unsent left supplied accepted more : List ℕ) → at ≢ phase.Over → unsent ≡ more ++ left
      → IsInPhase turns starts frames pool s o at is_last is_whole input unsent supplied accepted
      → IsInPhase turns starts frames pool s o at is_last is_whole input left supplied (accepted ++ more)
  phase_flushed s o at is_last is_whole input unsent left supplied accepted more here split h = record {
    between = λ f. between_flushed s o input unsent left supplied accepted more split (h.between f);
    within = λ e. within_flushed s o is_last input unsent left supplied accepted more split (h.within e);
    served = λ e. served_flushed unsent left supplied accepted more split (h.served e);
    over = λ e. absurd (here e);
    whole = λ e w. whole_flushed input.ended unsent left supplied accepted more split (h.whole e w);
    all = λ e. nothing_left more left (sym split ∙ h.all e);
  }

  -- a connection, or an end
  between_linked : (s after : Serving P) (l : Link) (input : Input) (unsent supplied accepted : List ℕ)
      → HasLinkVisited turns starts pool after l [] [] false
      → IsBetween turns starts frames pool s None input unsent supplied accepted
      → IsBetween turns starts frames pool after (Some l) input unsent supplied accepted
  between_linked s after l input unsent supplied accepted begun b = record {
    past_came = b.past_came;
    past_sent = b.past_sent;
    were = b.were;
    came = [];
    sent = [];
    is = (connections_follow turns starts frames pool).first after l begun;
    asked = b.asked;
    given = b.given;
    holds = subst (λ (k : List ℕ). Holds b.past_came b.past_sent k [] input.bytes.items unsent supplied accepted) b.is.0
        (subst (λ (k : List ℕ). Holds b.past_came b.past_sent b.came k input.bytes.items unsent supplied accepted)
        b.is.1 b.holds);
  }

  phase_linked : (s after : Serving P) (l : Link) (at : Phase) (is_last is_whole : Bool) (input : Input)
      (unsent supplied accepted : List ℕ) → HasLinkVisited turns starts pool after l [] [] false
      → IsInPhase turns starts frames pool s None at is_last is_whole input unsent supplied accepted
      → IsInPhase turns starts frames pool after (Some l) at is_last is_whole input unsent supplied accepted
  phase_linked s after l at is_last is_whole input unsent supplied accepted begun h = record {
    between = λ f. between_linked s after l input unsent supplied accepted begun (h.between f);
    within = λ e. absurd ((h.within e).is);
    served = h.served;
    over = h.over;
    whole = h.whole;
    all = h.all;
  }

  -- a request begins
  within_begun : (s : Serving P) (l : Link) (is_last : Bool) (input after : Input) (unsent supplied accepted : List ℕ)
      (size : ℕ)
      → frames (drop input.asked input.bytes.items) (frame_as is_last size) → IsBegun size input after
      → IsBetween turns starts frames pool s (Some l) input unsent supplied accepted
      → IsWithin turns starts frames pool s (Some l) is_last after unsent supplied accepted
  within_begun s l is_last input after unsent supplied accepted size framed is b = record {
    past_came = b.past_came;
    past_sent = b.past_sent;
    were = b.were;
    came = b.came;
    sent = b.sent;
    is = (connections_follow turns starts frames pool).begun s l is_last input after b.came b.sent size
        (subst (λ k. frames (drop k input.bytes.items) (frame_as is_last size)) b.asked framed) is b.is;
    holds = subst (λ (k : List ℕ). Holds b.past_came b.past_sent b.came b.sent k unsent supplied accepted)
        (sym (ap (λ k. drop k after.bytes.items) is.given ∙ is.bytes)) b.holds;
  }

  -- more of it arrives
  within_handed : (s after : Serving P) (o : Option Link) (is_last : Bool) (input next : Input)
      (unsent supplied accepted more rest : List ℕ)
      → drop input.given (take input.asked input.bytes.items) ≡ more ++ rest → IsGiven (length rest) input next
      → SlotProceeds turns starts pool o more [] false s after
      → IsWithin turns starts frames pool s o is_last input unsent supplied accepted
      → IsWithin turns starts frames pool after o is_last next unsent supplied accepted
  within_handed s after None is_last input next unsent supplied accepted more rest split is goes w = absurd w.is
  within_handed s after (Some l) is_last input next unsent supplied accepted more rest split is goes w = record {
    past_came = w.past_came;
    past_sent = w.past_sent;
    were = w.were;
    came = w.came ++ more;
    sent = w.sent;
    is = (connections_follow turns starts frames pool).handed s after l is_last input next w.came w.sent more rest split
        is goes w.is;
    holds = bytes_move.handed w.past_came w.past_sent w.came w.sent (waiting_of next) unsent supplied accepted more
        (subst (λ (k : List ℕ). Holds w.past_came w.past_sent w.came w.sent k unsent supplied accepted)
        (waiting_handed input next more rest w.is.within w.is.given split is) w.holds);
  }

  within_read : (s : Serving P) (o : Option Link) (is_last : Bool) (input after : Input)
      (unsent supplied accepted more : List ℕ) → after.bytes.items ≡ input.bytes.items ++ more
      → after.asked ≡ input.asked → after.given ≡ input.given
      → IsWithin turns starts frames pool s o is_last input unsent supplied accepted
      → IsWithin turns starts frames pool s o is_last after unsent (supplied ++ more) accepted
  within_read s None is_last input after unsent supplied accepted more grown asked given w = absurd w.is
  within_read s (Some l) is_last input after unsent supplied accepted more grown asked given w = record {
    past_came = w.past_came;
    past_sent = w.past_sent;
    were = w.were;
    came = w.came;
    sent = w.sent;
    is = (connections_follow turns starts frames pool).read s l is_last input after w.came w.sent more grown asked given
        w.is;
    holds = subst (λ (k : List ℕ). Holds w.past_came w.past_sent w.came w.sent k unsent (supplied ++ more) accepted)
        (sym (waiting_read input after more grown given (omega (arith, w.is.given, w.is.within))))
        (bytes_move.read w.past_came w.past_sent w.came w.sent (waiting_of input) unsent supplied accepted more
        w.holds);
  }

  phase_read : (s : Serving P) (o : Option Link) (at : Phase) (is_last is_whole : Bool) (input after : Input)
      (unsent supplied accepted more : List ℕ) → is_ending at ≡ false
      → after.bytes.items ≡ input.bytes.items ++ more → after.asked ≡ input.asked → after.given ≡ input.given
      → IsInPhase turns starts frames pool s o at is_last is_whole input unsent supplied accepted
      → IsInPhase turns starts frames pool s o at is_last is_whole after unsent (supplied ++ more) accepted
  phase_read s o at is_last is_whole input after unsent supplied accepted more still grown asked given h = record {
    between = λ f. between_read s o input after unsent supplied accepted more grown asked given (h.between f);
    within = λ e. within_read s o is_last input after unsent supplied accepted more grown asked given (h.within e);
    served = λ e. absurd (cc (still, e));
    over = λ e. (let v = h.over e in (v.0, served_read v.0 supplied accepted more v.1));
    whole = λ e w. absurd (cc (still, e));
    all = λ e. absurd (let no : is_ending at ≡ true = ap (λ p. is_ending p) e in cc (still, no));
  }

  -- the same bytes in an input
  phase_same : (s : Serving P) (o : Option Link) (at : Phase) (is_last is_whole : Bool) (input after : Input)
      (unsent supplied accepted : List ℕ)
      → after.bytes.items ≡ input.bytes.items → after.asked ≡ input.asked → after.given ≡ input.given
      → after.ended ≡ input.ended
      → IsInPhase turns starts frames pool s o at is_last is_whole input unsent supplied accepted
      → IsInPhase turns starts frames pool s o at is_last is_whole after unsent supplied accepted
  phase_same s o at is_last is_whole input after unsent supplied accepted bytes asked given ended h = record {
    between = λ f. subst (λ (k : List ℕ). IsBetween turns starts frames pool s o after unsent k accepted)
        (append-nil supplied)
        (between_read s o input after unsent supplied accepted [] (bytes ∙ sym (append-nil input.bytes.items)) asked
        given (h.between f));
    within = λ e. subst (λ (k : List ℕ). IsWithin turns starts frames pool s o is_last after unsent k accepted)
        (append-nil supplied)
        (within_read s o is_last input after unsent supplied accepted [] (bytes ∙ sym (append-nil input.bytes.items))
        asked given (h.within e));
    served = h.served;
    over = h.over;
    whole = λ e w. subst (λ (k : Bool). IsServedWhole turns starts frames pool k unsent supplied accepted) (sym ended)
        (h.whole e w);
    all = h.all;
  }

  -- the connection sends bytes, of which the socket accepts the first
  between_sent : (s after : Serving P) (l : Link) (input : Input) (unsent left supplied accepted more : List ℕ)
      → unsent ≡ [] → SlotProceeds turns starts pool (Some l) [] (more ++ left) false s after
      → IsBetween turns starts frames pool s (Some l) input unsent supplied accepted
      → IsBetween turns starts frames pool after (Some l) input left supplied (accepted ++ more)
  between_sent s after l input unsent left supplied accepted more none goes b = record {
    past_came = b.past_came;
    past_sent = b.past_sent;
    were = b.were;
    came = b.came;
    sent = b.sent ++ (more ++ left);
    is = (connections_follow turns starts frames pool).open_sends s after l b.came b.sent (more ++ left) goes b.is;
    asked = b.asked;
    given = b.given;
    holds = bytes_move.sent b.past_came b.past_sent b.came b.sent input.bytes.items left supplied accepted more
        (subst (λ (k : List ℕ). Holds b.past_came b.past_sent b.came b.sent input.bytes.items k supplied accepted) none
        b.holds);
  }

  within_sent : (s after : Serving P) (o : Option Link) (is_last : Bool) (input : Input)
      (unsent left supplied accepted more : List ℕ) → unsent ≡ []
      → SlotProceeds turns starts pool o [] (more ++ left) false s after
      → IsWithin turns starts frames pool s o is_last input unsent supplied accepted
      → IsWithin turns starts frames pool after o is_last input left supplied (accepted ++ more)
  within_sent s after None is_last input unsent left supplied accepted more none goes w = absurd w.is
  within_sent s after (Some l) is_last input unsent left supplied accepted more none goes w = record {
    past_came = w.past_came;
    past_sent = w.past_sent;
    were = w.were;
    came = w.came;
    sent = w.sent ++ (more ++ left);
    is = (connections_follow turns starts frames pool).sends s after l is_last input w.came w.sent (more ++ left) goes
        w.is;
    holds = bytes_move.sent w.past_came w.past_sent w.came w.sent (waiting_of input) left supplied accepted more
        (subst (λ (k : List ℕ). Holds w.past_came w.past_sent w.came w.sent (waiting_of input) k supplied accepted) none
        w.holds);
  }

  -- the response is complete
  between_answered : (s : Serving P) (o : Option Link) (is_last : Bool) (input after : Input)
      (unsent supplied accepted : List ℕ) → is_last ≡ false → input.asked ≤ input.given → IsFinished input after
      → IsWithin turns starts frames pool s o is_last input unsent supplied accepted
      → IsBetween turns starts frames pool s o after unsent supplied accepted
  between_answered s None is_last input after unsent supplied accepted keeps all is w = absurd w.is
  between_answered s (Some l) is_last input after unsent supplied accepted keeps all is w = record {
    past_came = w.past_came;
    past_sent = w.past_sent;
    were = w.were;
    came = w.came;
    sent = w.sent;
    is =
        (connections_follow turns starts frames pool).answered s l input w.came w.sent all
        (subst (λ (k : Bool). IsAsking turns starts frames pool s l k input w.came w.sent) keeps w.is);
    asked = is.asked;
    given = is.given;
    holds = subst (λ (k : List ℕ). Holds w.past_came w.past_sent w.came w.sent k unsent supplied accepted)
        (sym (is.bytes ∙ ap (λ k. drop k input.bytes.items) (omega (arith, all, w.is.given)))) w.holds;
  }

  -- the connection receives its end
  between_reported : (s after : Serving P) (o : Option Link) (input : Input) (unsent supplied accepted : List ℕ)
      → SlotProceeds turns starts pool o [] [] false s after
      → IsBetween turns starts frames pool s o input unsent supplied accepted
      → IsBetween turns starts frames pool after o input unsent supplied accepted
  between_reported s after None input unsent supplied accepted goes b = record {
    past_came = b.past_came;
    past_sent = b.past_sent;
    were = b.were;
    came = b.came;
    sent = b.sent;
    is = b.is;
    asked = b.asked;
    given = b.given;
    holds = b.holds;
  }
  between_reported s after (Some l) input unsent supplied accepted goes b = record {
    past_came = b.past_came;
    past_sent = b.past_sent;
    were = b.were;
    came = b.came;
    sent = b.sent;
    is = subst (λ (k : List ℕ). IsOpen turns starts frames pool after l b.came k) (append-nil b.sent)
        ((connections_follow turns starts frames pool).open_sends s after l b.came b.sent [] goes b.is);
    asked = b.asked;
    given = b.given;
    holds = b.holds;
  }

  -- the client has no connection any more
  between_left : (s after : Serving P) (o : Option Link) (input : Input) (unsent supplied accepted : List ℕ)
      → IsOver o s → IsBetween turns starts frames pool s o input unsent supplied accepted
      → IsBetween turns starts frames pool after None input unsent supplied accepted
  between_left s after None input unsent supplied accepted over b = absurd over
  between_left s after (Some l) input unsent supplied accepted over b = (
      let v = (connections_follow turns starts frames pool).left s l b.came b.sent over b.is in
      record {
        past_came = b.past_came ++ b.came;
        past_sent = b.past_sent ++ b.sent;
        were =
            (connections_follow turns starts frames pool).more b.past_came b.past_sent
            (record { world = v.0; conn = l.conn; came = b.came; sent = b.sent }) b.were v.1;
        came = [];
        sent = [];
        is = (refl, refl);
        asked = b.asked;
        given = b.given;
        holds = bytes_move.left b.past_came b.past_sent b.came b.sent input.bytes.items unsent supplied accepted
            b.holds;
      })

  -- a request closed it
  served_closed : (s : Serving P) (o : Option Link) (is_last : Bool) (input : Input) (unsent supplied accepted : List ℕ)
      → is_last ≡ true → input.asked ≤ input.given → IsOver o s
      → IsWithin turns starts frames pool s o is_last input unsent supplied accepted
      → IsServedToClose turns starts frames pool unsent supplied accepted
  served_closed s None is_last input unsent supplied accepted last all over w = absurd w.is
  served_closed s (Some l) is_last input unsent supplied accepted last all over w = (
      let v = (connections_follow turns starts frames pool).closed s l input w.came w.sent all over
      (subst (λ (k : Bool). IsAsking turns starts frames pool s l k input w.came w.sent) last w.is) in
      record {
        past_came = w.past_came;
        past_sent = w.past_sent;
        were = w.were;
        visit = record { world = v.0; conn = l.conn; came = w.came; sent = w.sent };
        closed = v.1;
        waiting = waiting_of input;
        holds = w.holds;
      })

  -- ---- one client

  module _ {S : Type 0} (gives takes : S → Option (List ℕ)) where
    abbrev pub Followed : Serving P → Option Link → Client S → Type 0
    Followed s o c = IsFollowed turns starts frames pool gives takes s o c

    followed_as : (s : Serving P) (o : Option Link) (c : Client S) (from to : List ℕ) (at : Phase)
        (is_last is_whole : Bool) (input : Input) (unsent : List ℕ)
        → gives c.socket ≡ Some from → takes c.socket ≡ Some to → c.phase ≡ at → c.is_last ≡ is_last
        → c.is_whole ≡ is_whole → c.input ≡ input → unsent_of c.output ≡ unsent
        → IsInPhase turns starts frames pool s o at is_last is_whole input unsent from to → Followed s o c
    followed_as s o c from to at is_last is_whole input unsent supplies accepts kind last whole same left is = record {
      from = from;
      to = to;
      supplies = supplies;
      accepts = accepts;
      is =
          subst (λ k. IsInPhase turns starts frames pool s o k c.is_last c.is_whole c.input (unsent_of c.output) from
          to) (sym kind)
          (subst (λ k. IsInPhase turns starts frames pool s o at k c.is_whole c.input (unsent_of c.output) from to)
          (sym last)
          (subst (λ k. IsInPhase turns starts frames pool s o at is_last k c.input (unsent_of c.output) from to)
          (sym whole)
          (subst (λ k. IsInPhase turns starts frames pool s o at is_last is_whole k (unsent_of c.output) from to)
          (sym same)
          (subst (λ k. IsInPhase turns starts frames pool s o at is_last is_whole input k from to) (sym left) is))));
    }

    pub new_followed : (s : Serving P) (o : Option Link) (c : Client S) → o ≡ None → AreKnown gives takes
        → IsEmpty (gives c.socket) → IsEmpty (takes c.socket) → c.phase ≡ phase.Parked
        → c.input.bytes.items ≡ [] → c.input.asked ≡ 0 → c.input.given ≡ 0 → unsent_of c.output ≡ [] → Followed s o c
    new_followed s o c none known no_supply no_accepted at bytes asked given unsent =
        followed_as s o c [] [] phase.Parked c.is_last c.is_whole c.input []
        (empty_known (gives c.socket) (known.supplies c.socket) no_supply)
        (empty_known (takes c.socket) (known.accepts c.socket) no_accepted) at refl refl refl unsent
        (in_free s o phase.Parked c.is_last c.is_whole c.input [] [] [] refl (record {
          past_came = [];
          past_sent = [];
          were = (connections_follow turns starts frames pool).none;
          came = [];
          sent = [];
          is = subst (λ (k : Option Link). IsOpenAt turns starts frames pool s k [] []) (sym none) (refl, refl);
          asked = asked;
          given = given;
          holds = subst (λ (k : List ℕ). Holds [] [] [] [] k [] [] []) (sym bytes) bytes_move.none;
        }))

    pub note_followed : (s : Serving P) (o : Option Link) (c n : Client S) → n.input.bytes.items ≡ c.input.bytes.items
        → n.input.asked ≡ c.input.asked → n.input.given ≡ c.input.given → n.input.ended ≡ c.input.ended
        → unsent_of n.output ≡ unsent_of c.output → n.socket ≡ c.socket → n.phase ≡ c.phase → n.is_last ≡ c.is_last
        → n.is_whole ≡ c.is_whole → Followed s o c → Followed s o n
    note_followed s o c n bytes asked given ended unsent socket at last whole h =
        followed_as s o n h.from h.to c.phase c.is_last c.is_whole n.input (unsent_of c.output)
        (ap (λ k. gives k) socket ∙ h.supplies) (ap (λ k. takes k) socket ∙ h.accepts) at last whole refl unsent
        (phase_same s o c.phase c.is_last c.is_whole c.input n.input (unsent_of c.output) h.from h.to bytes asked given
        ended h.is)

    pub read_followed : (s : Serving P) (o : Option Link) (c n : Client S) → is_ending c.phase ≡ false
        → Gains (gives c.socket) (gives n.socket) c.input.bytes.items n.input.bytes.items
        → Keeps (takes c.socket) (takes n.socket)
        → n.input.asked ≡ c.input.asked → n.input.given ≡ c.input.given → n.phase ≡ c.phase → n.output ≡ c.output
        → n.is_last ≡ c.is_last → n.is_whole ≡ c.is_whole → Followed s o c → Followed s o n
    read_followed s o c n still gains sent asked given at output last whole h =
        followed_as s o n (h.from ++ gains.came) h.to c.phase c.is_last c.is_whole n.input (unsent_of c.output)
        (appends_known (gives c.socket) (gives n.socket) h.from gains.came h.supplies gains.given)
        (keeps_known (takes c.socket) (takes n.socket) h.to h.accepts sent) at last whole refl
        (ap (λ k. unsent_of k) output)
        (phase_read s o c.phase c.is_last c.is_whole c.input n.input (unsent_of c.output) h.from h.to gains.came still
        gains.kept asked given h.is)

    -- a client that is over
    pub over_followed : (s after : Serving P) (o p : Option Link) (c n : Client S)
        → Grows (gives c.socket) (gives n.socket) → Keeps (takes c.socket) (takes n.socket) → n.phase ≡ phase.Over
        → Followed s o c → Followed after p n
    over_followed s after o p c n came sent at h =
        let v = served_of s o c.phase c.is_last c.is_whole c.input (unsent_of c.output) h.from h.to h.is in
        followed_as after p n (h.from ++ came.0) h.to phase.Over n.is_last n.is_whole n.input (unsent_of n.output)
        (appends_known (gives c.socket) (gives n.socket) h.from came.0 h.supplies came.1)
        (keeps_known (takes c.socket) (takes n.socket) h.to h.accepts sent) at refl refl refl refl
        (in_over after p phase.Over n.is_last n.is_whole n.input (unsent_of n.output) v.0 (h.from ++ came.0) h.to refl
        (served_read v.0 h.from h.to came.0 v.1))

    -- the connection of a client that is over does not matter
    pub over_anywhere : (s after : Serving P) (o p : Option Link) (c : Client S) → c.phase ≡ phase.Over → Followed s o c
        → Followed after p c
    over_anywhere s after o p c at h =
        let v = h.is.over at in
        followed_as after p c h.from h.to phase.Over c.is_last c.is_whole c.input (unsent_of c.output) h.supplies
        h.accepts at refl refl refl refl
        (in_over after p phase.Over c.is_last c.is_whole c.input (unsent_of c.output) v.0 h.from h.to refl v.1)

    -- from one phase between requests to another
    pub free_followed : (s : Serving P) (o : Option Link) (at : Phase) (c n : Client S) → is_free c.phase ≡ true
        → is_free at ≡ true → n.phase ≡ at → n.socket ≡ c.socket → n.input ≡ c.input → n.output ≡ c.output
        → Followed s o c → Followed s o n
    free_followed s o at c n free is same socket input output h =
        followed_as s o n h.from h.to at n.is_last n.is_whole c.input (unsent_of c.output)
        (ap (λ k. gives k) socket ∙ h.supplies) (ap (λ k. takes k) socket ∙ h.accepts) same refl refl input
        (ap (λ k. unsent_of k) output)
        (in_free s o at n.is_last n.is_whole c.input (unsent_of c.output) h.from h.to is (h.is.between free))

    pub linked_followed : (s after : Serving P) (o : Option Link) (l : Link) (c : Client S) → is_some o ≡ false
        → HasLinkVisited turns starts pool after l [] [] false → Followed s o c → Followed after (Some l) c
    linked_followed s after None l c none begun h =
        followed_as after (Some l) c h.from h.to c.phase c.is_last c.is_whole c.input (unsent_of c.output) h.supplies
        h.accepts refl refl refl refl refl
        (phase_linked s after l c.phase c.is_last c.is_whole c.input (unsent_of c.output) h.from h.to begun h.is)
    linked_followed s after (Some d) l c none begun h = absurd (cc none)

    pub begun_followed : (s : Serving P) (o : Option Link) (size : ℕ) (is_last : Bool) (c n : Client S)
        → is_some o ≡ true → is_free c.phase ≡ true
        → frames (drop c.input.asked c.input.bytes.items) (frame_as is_last size)
        → IsBegun size c.input n.input → n.is_last ≡ is_last → unsent_of n.output ≡ unsent_of c.output
        → n.socket ≡ c.socket → n.phase ≡ phase.Answering → Followed s o c → Followed s o n
    begun_followed s None size is_last c n some free framed is last unsent socket at h = absurd (cc some)
    begun_followed s (Some l) size is_last c n some free framed is last unsent socket at h =
        followed_as s (Some l) n h.from h.to phase.Answering is_last n.is_whole n.input (unsent_of c.output)
        (ap (λ k. gives k) socket ∙ h.supplies) (ap (λ k. takes k) socket ∙ h.accepts) at last refl refl unsent
        (in_answering s (Some l) phase.Answering is_last n.is_whole n.input (unsent_of c.output) h.from h.to refl
        (within_begun s l is_last c.input n.input (unsent_of c.output) h.from h.to size framed is (h.is.between free)))

    pub handed_followed : (s after : Serving P) (o : Option Link) (left : ℕ) (bytes rest : List ℕ) (c n : Client S)
        → c.phase ≡ phase.Answering
        → bytes ≡ drop c.input.given (take c.input.asked c.input.bytes.items) → left ≡ length rest
        → (came : List ℕ) × (bytes ≡ came ++ rest) × SlotProceeds turns starts pool o came [] false s after
        → IsGiven left c.input n.input → n.socket ≡ c.socket → n.phase ≡ c.phase → n.output ≡ c.output
        → n.is_last ≡ c.is_last
        → Followed s o c → Followed after o n
    handed_followed s after o left bytes rest c n at is count goes given socket same output last h =
        followed_as after o n h.from h.to phase.Answering c.is_last n.is_whole n.input (unsent_of c.output)
        (ap (λ k. gives k) socket ∙ h.supplies) (ap (λ k. takes k) socket ∙ h.accepts) (same ∙ at) last refl refl
        (ap (λ k. unsent_of k) output)
        (in_answering after o phase.Answering c.is_last n.is_whole n.input (unsent_of c.output) h.from h.to refl
        (within_handed s after o c.is_last c.input n.input (unsent_of c.output) h.from h.to goes.0 rest (sym is
        ∙ goes.1) (subst (λ k. IsGiven k c.input n.input) count given) goes.2 (h.is.within at)))

    -- a client between requests whose connection receives its end
    pub leaves_followed : (s after : Serving P) (o : Option Link) (c n : Client S) → is_free c.phase ≡ true
        → SlotProceeds turns starts pool o [] [] false s after → n.phase ≡ phase.Leaving → n.socket ≡ c.socket
        → n.input ≡ c.input
        → n.output ≡ c.output → Followed s o c → Followed after o n
    leaves_followed s after o c n free goes at socket input output h =
        followed_as after o n h.from h.to phase.Leaving n.is_last n.is_whole c.input (unsent_of c.output)
        (ap (λ k. gives k) socket ∙ h.supplies) (ap (λ k. takes k) socket ∙ h.accepts) at refl refl input
        (ap (λ k. unsent_of k) output)
        (in_free after o phase.Leaving n.is_last n.is_whole c.input (unsent_of c.output) h.from h.to refl
        (between_reported s after o c.input (unsent_of c.output) h.from h.to goes (h.is.between free)))

    -- a client whose peer sends no more, and that has no connection
    pub ends_followed : (s : Serving P) (o : Option Link) (f : Frame) (c n : Client S) → is_some o ≡ false
        → is_free c.phase ≡ true → c.input.ended ≡ true → frames (drop c.input.asked c.input.bytes.items) f
        → (n.is_whole ≡ true → f ≡ frame.Incomplete) → n.phase ≡ phase.Flushing → n.socket ≡ c.socket
        → n.input ≡ c.input → n.output ≡ c.output → Followed s o c → Followed s o n
    ends_followed s (Some l) f c n none free ended framed whole at socket input output h = absurd (cc none)
    ends_followed s None f c n none free ended framed whole at socket input output h =
        let b : IsBetween turns starts frames pool s None c.input (unsent_of c.output) h.from h.to =
        h.is.between free in
        let holds : Holds b.past_came b.past_sent [] [] c.input.bytes.items (unsent_of c.output) h.from h.to =
        subst (λ (k : List ℕ). Holds b.past_came b.past_sent k [] c.input.bytes.items (unsent_of c.output) h.from
        h.to) b.is.0
        (subst (λ (k : List ℕ). Holds b.past_came b.past_sent b.came k c.input.bytes.items (unsent_of c.output) h.from
        h.to) b.is.1 b.holds) in
        followed_as s None n h.from h.to phase.Flushing n.is_last n.is_whole c.input (unsent_of c.output)
        (ap (λ k. gives k) socket ∙ h.supplies) (ap (λ k. takes k) socket ∙ h.accepts) at refl refl input
        (ap (λ k. unsent_of k) output)
        (in_ending s None phase.Flushing n.is_last n.is_whole c.input (unsent_of c.output) h.from h.to refl
        (served_between s None c.input (unsent_of c.output) h.from h.to b)
        (λ w. inr (record {
          past_came = b.past_came;
          past_sent = b.past_sent;
          were = b.were;
          waiting = c.input.bytes.items;
          none = subst (λ k. frames k frame.Incomplete) (ap (λ k. drop k c.input.bytes.items) b.asked)
              (subst (λ k. frames (drop c.input.asked c.input.bytes.items) k) (whole w) framed);
          ended = ended;
          holds = holds;
        }))
        (λ e. absurd (cc e)))

    pub flushed_followed : (s : Serving P) (o : Option Link) (c n : Client S) → c.phase ≢ phase.Over
        → Passes (takes c.socket) (takes n.socket) (unsent_of c.output) (unsent_of n.output)
        → Keeps (gives c.socket) (gives n.socket)
        → n.phase ≡ c.phase → n.input ≡ c.input → n.is_last ≡ c.is_last → n.is_whole ≡ c.is_whole → Followed s o c
        → Followed s o n
    flushed_followed s o c n here passes came at input last whole h =
        followed_as s o n h.from (h.to ++ passes.accepted) c.phase c.is_last c.is_whole c.input (unsent_of n.output)
        (keeps_known (gives c.socket) (gives n.socket) h.from h.supplies came)
        (appends_known (takes c.socket) (takes n.socket) h.to passes.accepted h.accepts passes.taken) at last whole
        input refl
        (phase_flushed s o c.phase c.is_last c.is_whole c.input (unsent_of c.output) (unsent_of n.output) h.from h.to
        passes.accepted here passes.left h.is)

    -- the connection sends bytes, of which the socket accepts the first
    sent_in : (s after : Serving P) (o : Option Link) (at : Phase) (is_last is_whole : Bool) (input : Input)
        (unsent left from to more : List ℕ) → (at ≡ phase.Answering) ⊎ (at ≡ phase.Leaving) → is_some o ≡ true
        → unsent ≡ []
        → SlotProceeds turns starts pool o [] (more ++ left) false s after
        → IsInPhase turns starts frames pool s o at is_last is_whole input unsent from to
        → IsInPhase turns starts frames pool after o at is_last is_whole input left from (to ++ more)
    sent_in s after None at is_last is_whole input unsent left from to more is some none goes h = absurd (cc some)
    sent_in s after (Some l) at is_last is_whole input unsent left from to more (inl e) some none goes h =
        in_answering after (Some l) at is_last is_whole input left from (to ++ more) e
        (within_sent s after (Some l) is_last input unsent left from to more none goes (h.within e))
    sent_in s after (Some l) at is_last is_whole input unsent left from to more (inr e) some none goes h =
        let free : is_free at ≡ true = ap (λ k. is_free k) e in
        in_free after (Some l) at is_last is_whole input left from (to ++ more) free
        (between_sent s after l input unsent left from to more none goes (h.between free))

    pub sent_followed : (s after : Serving P) (o : Option Link) (sent : List ℕ) (c n : Client S)
        → (c.phase ≡ phase.Answering) ⊎ (c.phase ≡ phase.Leaving) → is_some o ≡ true → unsent_of c.output ≡ []
        → SlotProceeds turns starts pool o [] sent false s after
        → Passes (takes c.socket) (takes n.socket) sent (unsent_of n.output)
        → Keeps (gives c.socket) (gives n.socket)
        → n.phase ≡ c.phase → n.input ≡ c.input → n.is_last ≡ c.is_last → n.is_whole ≡ c.is_whole → Followed s o c
        → Followed after o n
    sent_followed s after o sent c n is some none goes passes came at input last whole h =
        followed_as after o n h.from (h.to ++ passes.accepted) c.phase c.is_last c.is_whole c.input (unsent_of n.output)
        (keeps_known (gives c.socket) (gives n.socket) h.from h.supplies came)
        (appends_known (takes c.socket) (takes n.socket) h.to passes.accepted h.accepts passes.taken) at last whole
        input refl
        (sent_in s after o c.phase c.is_last c.is_whole c.input (unsent_of c.output) (unsent_of n.output) h.from h.to
        passes.accepted is some none
        (subst (λ (k : List ℕ). SlotProceeds turns starts pool o [] k false s after) passes.left goes) h.is)

    -- the same if the socket failed
    pub lost_followed : (s after : Serving P) (o : Option Link) (sent : List ℕ) (c n : Client S)
        → (c.phase ≡ phase.Answering) ⊎ (c.phase ≡ phase.Leaving) → is_some o ≡ true → unsent_of c.output ≡ []
        → SlotProceeds turns starts pool o [] sent false s after → PassesSome (takes c.socket) (takes n.socket) sent
        → Keeps (gives c.socket) (gives n.socket) → n.phase ≡ phase.Over
        → Followed s o c → Followed after o n
    lost_followed s after o sent c n is some none goes passes came at h =
        let p : Passes (takes c.socket) (takes n.socket) sent passes.0 = passes.1 in
        let v = served_of after o c.phase c.is_last c.is_whole c.input passes.0 h.from (h.to ++ p.accepted)
        (sent_in s after o c.phase c.is_last c.is_whole c.input (unsent_of c.output) passes.0 h.from h.to p.accepted is
        some none
        (subst (λ (k : List ℕ). SlotProceeds turns starts pool o [] k false s after) p.left goes) h.is) in
        followed_as after o n h.from (h.to ++ p.accepted) phase.Over n.is_last n.is_whole n.input (unsent_of n.output)
        (keeps_known (gives c.socket) (gives n.socket) h.from h.supplies came)
        (appends_known (takes c.socket) (takes n.socket) h.to p.accepted h.accepts p.taken) at refl refl refl refl
        (in_over after o phase.Over n.is_last n.is_whole n.input (unsent_of n.output) v.0 h.from (h.to ++ p.accepted)
        refl v.1)

    pub answered_followed : (s : Serving P) (o : Option Link) (c n : Client S) → c.phase ≡ phase.Answering
        → c.input.asked ≤ c.input.given → c.is_last ≡ false → IsFinished c.input n.input → n.socket ≡ c.socket
        → n.phase ≡ phase.Idle → n.output ≡ c.output → Followed s o c → Followed s o n
    answered_followed s o c n at all keeps is socket now output h =
        followed_as s o n h.from h.to phase.Idle n.is_last n.is_whole n.input (unsent_of c.output)
        (ap (λ k. gives k) socket ∙ h.supplies) (ap (λ k. takes k) socket ∙ h.accepts) now refl refl refl
        (ap (λ k. unsent_of k) output)
        (in_free s o phase.Idle n.is_last n.is_whole n.input (unsent_of c.output) h.from h.to refl
        (between_answered s o c.is_last c.input n.input (unsent_of c.output) h.from h.to keeps all is (h.is.within at)))

    pub completed_followed : (s : Serving P) (o : Option Link) (done : Bool) (c n : Client S) → (done ≡ false → n ≡ c)
        → (done ≡ true → IsCompleted c n) → Followed s o c → Followed s o n
    completed_followed s o false c n waits is h =
        subst (λ (k : Client S). IsFollowed turns starts frames pool gives takes s o k) (sym (waits refl)) h
    completed_followed s o true c n waits is h =
        (let d = is refl in answered_followed s o c n d.asking d.all d.keeps d.finished d.socket d.idle d.output h)

    -- the same, if the table of connections is unchanged
    pub leaves_at : (s after : Serving P) (o p : Option Link) (c n : Client S) → is_free c.phase ≡ true
        → SlotProceeds turns starts pool o [] [] false s after → p ≡ o → n.phase ≡ phase.Leaving → n.socket ≡ c.socket
        → n.input ≡ c.input → n.output ≡ c.output → Followed s o c → Followed after p n
    leaves_at s after o p c n free goes same at socket input output h =
        subst (λ (k : Option Link). IsFollowed turns starts frames pool gives takes after k n) (sym same)
        (leaves_followed s after o c n free goes at socket input output h)

    pub handed_at : (s after : Serving P) (o p : Option Link) (left : ℕ) (bytes rest : List ℕ) (c n : Client S)
        → c.phase ≡ phase.Answering
        → bytes ≡ drop c.input.given (take c.input.asked c.input.bytes.items) → left ≡ length rest
        → (came : List ℕ) × (bytes ≡ came ++ rest) × SlotProceeds turns starts pool o came [] false s after → p ≡ o
        → IsGiven left c.input n.input → n.socket ≡ c.socket → n.phase ≡ c.phase → n.output ≡ c.output
        → n.is_last ≡ c.is_last
        → Followed s o c → Followed after p n
    handed_at s after o p left bytes rest c n at is count goes same given socket kind output last h =
        subst (λ (k : Option Link). IsFollowed turns starts frames pool gives takes after k n) (sym same)
        (handed_followed s after o left bytes rest c n at is count goes given socket kind output last h)

    -- the same, after memory was reserved for them
    pub sent_at : (s after : Serving P) (o p : Option Link) (sent : List ℕ) (c m n : Client S)
        → (c.phase ≡ phase.Answering) ⊎ (c.phase ≡ phase.Leaving) → is_some o ≡ true → unsent_of c.output ≡ []
        → unsent_of m.output ≡ unsent_of c.output → m.socket ≡ c.socket → m.phase ≡ c.phase → m.input ≡ c.input
        → m.is_last ≡ c.is_last → m.is_whole ≡ c.is_whole
        → SlotProceeds turns starts pool o [] sent false s after → p ≡ o
        → Passes (takes m.socket) (takes n.socket) sent (unsent_of n.output)
        → Keeps (gives m.socket) (gives n.socket)
        → n.phase ≡ m.phase → n.input ≡ m.input → n.is_last ≡ m.is_last → n.is_whole ≡ m.is_whole → Followed s o c
        → Followed after p n
    sent_at s after o p sent c m n is some none unsent socket kind input last whole goes same passes came now
        after_input after_last after_whole h =
        subst (λ (k : Option Link). IsFollowed turns starts frames pool gives takes after k n) (sym same)
        (sent_followed s after o sent c n is some none goes
        (subst (λ k. Passes (takes k) (takes n.socket) sent (unsent_of n.output)) socket passes)
        (subst (λ k. Keeps (gives k) (gives n.socket)) socket came)
        (now ∙ kind) (after_input ∙ input) (after_last ∙ last) (after_whole ∙ whole) h)

    pub lost_at : (s after : Serving P) (o p : Option Link) (sent : List ℕ) (c m d n : Client S)
        → (c.phase ≡ phase.Answering) ⊎ (c.phase ≡ phase.Leaving) → is_some o ≡ true → unsent_of c.output ≡ []
        → m.socket ≡ c.socket → SlotProceeds turns starts pool o [] sent false s after → p ≡ o
        → PassesSome (takes m.socket) (takes d.socket) sent → Keeps (gives m.socket) (gives d.socket)
        → n.socket ≡ d.socket → n.phase ≡ phase.Over → Followed s o c → Followed after p n
    lost_at s after o p sent c m d n is some none socket goes same passes came last at h =
        subst (λ (k : Option Link). IsFollowed turns starts frames pool gives takes after k n) (sym same)
        (lost_followed s after o sent c n is some none goes
        (subst (λ k. PassesSome (takes c.socket) (takes k) sent) (sym last)
        (subst (λ k. PassesSome (takes k) (takes d.socket) sent) socket passes))
        (subst (λ k. Keeps (gives c.socket) (gives k)) (sym last)
        (subst (λ k. Keeps (gives k) (gives d.socket)) socket came)) at h)

    -- memory was reserved
    pub room_followed : (s : Serving P) (o : Option Link) (c n : Client S) → unsent_of n.output ≡ unsent_of c.output
        → n.socket ≡ c.socket → n.phase ≡ c.phase → n.input ≡ c.input → n.is_last ≡ c.is_last → n.is_whole ≡ c.is_whole
        → Followed s o c → Followed s o n
    room_followed s o c n unsent socket at input last whole h =
        followed_as s o n h.from h.to c.phase c.is_last c.is_whole c.input (unsent_of c.output)
        (ap (λ k. gives k) socket ∙ h.supplies) (ap (λ k. takes k) socket ∙ h.accepts) at last whole input unsent h.is

    -- the processes closed the connection that the client gave back
    pub left_followed : (s after : Serving P) (o p : Option Link) (c n : Client S) → c.phase ≡ phase.Leaving
        → IsOver o s → p ≡ None → n.phase ≡ phase.Parked → n.socket ≡ c.socket → n.input ≡ c.input
        → unsent_of n.output ≡ unsent_of c.output → Followed s o c → Followed after p n
    left_followed s after o p c n at over none now socket input unsent h =
        let free : is_free c.phase ≡ true = ap (λ k. is_free k) at in
        followed_as after p n h.from h.to phase.Parked n.is_last n.is_whole c.input (unsent_of c.output)
        (ap (λ k. gives k) socket ∙ h.supplies) (ap (λ k. takes k) socket ∙ h.accepts) now refl refl input unsent
        (in_free after p phase.Parked n.is_last n.is_whole c.input (unsent_of c.output) h.from h.to refl
        (subst (λ (k : Option Link). IsBetween turns starts frames pool after k c.input (unsent_of c.output) h.from
        h.to) (sym none)
        (between_left s after o c.input (unsent_of c.output) h.from h.to over (h.is.between free))))

    -- the processes closed the connection of a client with a request in progress
    pub closed_followed : (s after : Serving P) (o p : Option Link) (c n : Client S) → c.phase ≡ phase.Answering
        → IsOver o s → (n.is_whole ≡ true → c.is_last ≡ true) → (n.is_whole ≡ true → c.input.asked ≤ c.input.given)
        → n.phase ≡ phase.Flushing → n.socket ≡ c.socket → unsent_of n.output ≡ unsent_of c.output → Followed s o c
        → Followed after p n
    closed_followed s after o p c n at over last all now socket unsent h =
        followed_as after p n h.from h.to phase.Flushing n.is_last n.is_whole n.input (unsent_of c.output)
        (ap (λ k. gives k) socket ∙ h.supplies) (ap (λ k. takes k) socket ∙ h.accepts) now refl refl refl unsent
        (in_ending after p phase.Flushing n.is_last n.is_whole n.input (unsent_of c.output) h.from h.to refl
        (served_within s o c.is_last c.input (unsent_of c.output) h.from h.to (h.is.within at))
        (λ w. inl (served_closed s o c.is_last c.input (unsent_of c.output) h.from h.to (last w) (all w) over
        (h.is.within at)))
        (λ e. absurd (cc e)))

    -- its output was ended
    pub closing_followed : (s : Serving P) (o : Option Link) (c n : Client S) → c.phase ≡ phase.Flushing
        → unsent_of c.output ≡ [] → n.phase ≡ phase.Closing → Keeps (gives c.socket) (gives n.socket)
        → Keeps (takes c.socket) (takes n.socket)
        → n.input ≡ c.input → n.output ≡ c.output → n.is_whole ≡ c.is_whole → Followed s o c → Followed s o n
    closing_followed s o c n at none now came sent input output whole h =
        let ending : is_ending c.phase ≡ true = ap (λ k. is_ending k) at in
        followed_as s o n h.from h.to phase.Closing n.is_last c.is_whole c.input (unsent_of c.output)
        (keeps_known (gives c.socket) (gives n.socket) h.from h.supplies came)
        (keeps_known (takes c.socket) (takes n.socket) h.to h.accepts sent) now refl whole input
        (ap (λ k. unsent_of k) output)
        (in_ending s o phase.Closing n.is_last c.is_whole c.input (unsent_of c.output) h.from h.to refl
        (h.is.served ending) (h.is.whole ending) (λ e. none))

    -- input after it is dropped
    pub drained_followed : (s : Serving P) (o : Option Link) (c n : Client S) → c.phase ≡ phase.Closing
        → c.input.ended ≡ false → Grows (gives c.socket) (gives n.socket) → Keeps (takes c.socket) (takes n.socket)
        → n.phase ≡ c.phase → n.output ≡ c.output → n.is_whole ≡ c.is_whole → Followed s o c → Followed s o n
    drained_followed s o c n at still came sent same output whole h =
        let ending : is_ending c.phase ≡ true = ap (λ k. is_ending k) at in
        followed_as s o n (h.from ++ came.0) h.to phase.Closing n.is_last c.is_whole n.input (unsent_of c.output)
        (appends_known (gives c.socket) (gives n.socket) h.from came.0 h.supplies came.1)
        (keeps_known (takes c.socket) (takes n.socket) h.to h.accepts sent) (same ∙ at) refl whole refl
        (ap (λ k. unsent_of k) output)
        (in_ending s o phase.Closing n.is_last c.is_whole n.input (unsent_of c.output) (h.from ++ came.0) h.to refl
        (served_read (unsent_of c.output) h.from h.to came.0 (h.is.served ending))
        (λ w. whole_read c.input.ended n.input.ended (unsent_of c.output) h.from h.to came.0 still
        (h.is.whole ending w))
        (λ e. h.is.all at))

    history_of : (s : Serving P) (o : Option Link) (c : Client S) → Followed s o c
        → HasHistory turns starts frames pool gives takes c
    history_of s o c h =
        let v = served_of s o c.phase c.is_last c.is_whole c.input (unsent_of c.output) h.from h.to h.is in
        record {
          from = h.from;
          to = h.to;
          supplies = h.supplies;
          accepts = h.accepts;
          unsent = v.0;
          served = v.1;
          whole = λ e w. subst (λ (k : List ℕ). IsServedWhole turns starts frames pool c.input.ended k h.from h.to)
              (h.is.all e)
              (h.is.whole (subst (λ (k : Phase). is_ending k ≡ true) (sym e) refl) w);
        }

    -- the history of the client in a place
    pub known_at : (s : Serving P) (table : List (Option Link)) (clients : List (Option (Client S))) (slot : ℕ)
        (c : Client S) → get_or clients slot None ≡ Some c
        → AreFollowed turns starts frames pool gives takes s table clients
        → HasKnownHistory turns starts frames pool gives takes c
    known_at s table clients slot c at all =
        λ known. ∥∥₁_map (all known slot c at) (λ h. history_of s (link_at table slot) c h)

    -- ---- all clients

    followed_kept : (s after : Serving P) (o p : Option Link) (c : Client S) → Stays s after o → p ≡ o → Followed s o c
        → Followed after p c
    followed_kept s after o p c stay same h = record {
      from = h.from;
      to = h.to;
      supplies = h.supplies;
      accepts = h.accepts;
      is =
          subst (λ (k : Option Link). IsInPhase turns starts frames pool after k c.phase c.is_last c.is_whole c.input
          (unsent_of c.output) h.from h.to) (sym same)
          (phase_kept s after o c.phase c.is_last c.is_whole c.input (unsent_of c.output) h.from h.to stay h.is);
    }

    -- the clients in other places
    others_kept : (s after : Serving P) (table next : List (Option Link)) (last slot j : ℕ) (c : Client S)
        → AreApart table → HaveCome s.number last table → Others s after (link_at table slot) → j ≢ slot
        → link_at next j ≡ link_at table j → Followed s (link_at table j) c → Followed after (link_at next j) c
    others_kept s after table next last slot j c apart come others other rest h =
        followed_kept s after (link_at table j) (link_at next j) c
        (λ l at more sent v. others l (λ e. other (apart j slot l at e)) (up_to s.number last l (come j l at)) more sent
        v) rest h

    pub all_stay : (s after : Serving P) (table next : List (Option Link)) (last : ℕ)
        (clients : List (Option (Client S))) → HaveCome s.number last table
        → LinksStay turns starts pool s after
        → ((j : ℕ) → link_at next j ≡ link_at table j)
        → AreFollowed turns starts frames pool gives takes s table clients
        → AreFollowed turns starts frames pool gives takes after next clients
    all_stay s after table next last clients come stay rest all =
        λ known j c at. ∥∥₁_map (all known j c at)
        (λ h. followed_kept s after (link_at table j) (link_at next j) c
        (λ l is more sent v. stay l more sent false (up_to s.number last l (come j l is)) v) (rest j) h)

    -- a client in its place, which has not changed
    pub all_same : (s : Serving P) (table : List (Option Link)) (clients : List (Option (Client S))) (slot : ℕ)
        (place : Option (Client S)) → slot < length clients → place ≡ get_or clients slot place
        → AreFollowed turns starts frames pool gives takes s table clients
        → AreFollowed turns starts frames pool gives takes s table (set clients slot place)
    all_same s table clients slot place within is all =
        subst (λ k. AreFollowed turns starts frames pool gives takes s table k)
        (sym (set_same clients slot place within is)) all

    -- a client and its connection advance; the other clients stay
    pub all_move : (s after : Serving P) (table next : List (Option Link)) (last : ℕ)
        (clients : List (Option (Client S))) (slot : ℕ) (place : Option (Client S)) (c n : Client S)
        → AreApart table → HaveCome s.number last table
        → Others s after (link_at table slot) → ((j : ℕ) → j ≢ slot → link_at next j ≡ link_at table j)
        → slot < length clients → place ≡ get_or clients slot place → place ≡ Some c
        → (Followed s (link_at table slot) c → Followed after (link_at next slot) n)
        → AreFollowed turns starts frames pool gives takes s table clients
        → AreFollowed turns starts frames pool gives takes after next (set clients slot (Some n))
    all_move s after table next last clients slot place c n apart come others rest within is here own all =
        λ known j m at. elim (cases_eq j slot) [
          | inl e ↦ subst (λ k. ∥ IsFollowed turns starts frames pool gives takes after (link_at next k) m ∥₁) (sym e)
              (subst (λ (k : Client S). ∥ IsFollowed turns starts frames pool gives takes after (link_at next slot) k
              ∥₁)
              (some_same n m (sym (get_or-set_same clients slot (Some n) None within)
              ∙ (ap (λ k. get_or (set clients slot (Some n)) k None) (sym e) ∙ at)))
              (∥∥₁_map (all known slot c (at_place clients slot place c within is here)) own))
          | inr other ↦ ∥∥₁_map (all known j m (sym (get_or-set_other clients slot j (Some n) None other) ∙ at))
              (λ h. others_kept s after table next last slot j m apart come others other (rest j other) h)
        ]

    -- only a client advances
    pub one_moves : (s : Serving P) (table : List (Option Link)) (clients : List (Option (Client S))) (slot : ℕ)
        (place : Option (Client S)) (c n : Client S) → slot < length clients → place ≡ get_or clients slot place
        → place ≡ Some c
        → (Followed s (link_at table slot) c → Followed s (link_at table slot) n)
        → AreFollowed turns starts frames pool gives takes s table clients
        → AreFollowed turns starts frames pool gives takes s table (set clients slot (Some n))
    one_moves s table clients slot place c n within is here own all = λ known j m at. elim (cases_eq j slot) [
      | inl e ↦ subst (λ k. ∥ IsFollowed turns starts frames pool gives takes s (link_at table k) m ∥₁) (sym e)
          (subst (λ (k : Client S). ∥ IsFollowed turns starts frames pool gives takes s (link_at table slot) k ∥₁)
          (some_same n m (sym (get_or-set_same clients slot (Some n) None within)
          ∙ (ap (λ k. get_or (set clients slot (Some n)) k None) (sym e) ∙ at)))
          (∥∥₁_map (all known slot c (at_place clients slot place c within is here)) own))
      | inr other ↦ all known j m (sym (get_or-set_other clients slot j (Some n) None other) ∙ at)
    ]

    -- the client in a place gets a connection
    pub all_linked : (s after : Serving P) (table next : List (Option Link)) (last : ℕ)
        (clients : List (Option (Client S))) (slot : ℕ) (l : Link) → AreApart table
        → HaveCome s.number last table
        → Others s after (link_at table slot) → ((j : ℕ) → j ≢ slot → link_at next j ≡ link_at table j)
        → is_some (link_at table slot) ≡ false → link_at next slot ≡ Some l
        → ∥ HasLinkVisited turns starts pool after l [] [] false ∥₁
        → AreFollowed turns starts frames pool gives takes s table clients
        → AreFollowed turns starts frames pool gives takes after next clients
    all_linked s after table next last clients slot l apart come others rest none linked begun all =
        λ known j c at. elim (cases_eq j slot) [
          | inl e ↦ ∥∥₁_map₂ begun (all known j c at) (λ b h.
              subst (λ (k : Option Link). IsFollowed turns starts frames pool gives takes after k c)
              (sym (ap (λ k. link_at next k) e ∙ linked))
              (linked_followed s after (link_at table j) l c (ap (λ k. is_some (link_at table k)) e ∙ none) b h))
          | inr other ↦
              ∥∥₁_map (all known j c at) (λ h. others_kept s after table next last slot j c apart come others other
              (rest j other) h)
        ]

    -- the client in a place is over, and its connection does not matter
    pub all_hung_up : (s after : Serving P) (table next : List (Option Link)) (last : ℕ)
        (clients : List (Option (Client S))) (slot : ℕ) → AreApart table → HaveCome s.number last table
        → Others s after (link_at table slot) → ((j : ℕ) → j ≢ slot → link_at next j ≡ link_at table j)
        → ((c : Client S) → get_or clients slot None ≡ Some c → c.phase ≡ phase.Over)
        → AreFollowed turns starts frames pool gives takes s table clients
        → AreFollowed turns starts frames pool gives takes after next clients
    all_hung_up s after table next last clients slot apart come others rest over all =
        λ known j c at. elim (cases_eq j slot) [
          | inl e ↦
              ∥∥₁_map (all known j c at)
              (λ h. over_anywhere s after (link_at table j) (link_at next j) c
              (over c (sym (ap (λ k. get_or clients k None) e) ∙ at)) h)
          | inr other ↦
              ∥∥₁_map (all known j c at) (λ h. others_kept s after table next last slot j c apart come others other
              (rest j other) h)
        ]

    -- a new client in a place
    pub all_admit : (s after : Serving P) (table next : List (Option Link)) (last : ℕ)
        (clients : List (Option (Client S))) (slot : ℕ) (n : Client S) → AreApart table
        → HaveCome s.number last table
        → Others s after (link_at table slot) → ((j : ℕ) → j ≢ slot → link_at next j ≡ link_at table j)
        → slot < length clients → (AreKnown gives takes → Followed after (link_at next slot) n)
        → AreFollowed turns starts frames pool gives takes s table clients
        → AreFollowed turns starts frames pool gives takes after next (set clients slot (Some n))
    all_admit s after table next last clients slot n apart come others rest within own all =
        λ known j m at. elim (cases_eq j slot) [
          | inl e ↦ subst (λ k. ∥ IsFollowed turns starts frames pool gives takes after (link_at next k) m ∥₁) (sym e)
              (subst (λ (k : Client S). ∥ IsFollowed turns starts frames pool gives takes after (link_at next slot) k
              ∥₁)
              (some_same n m (sym (get_or-set_same clients slot (Some n) None within)
              ∙ (ap (λ k. get_or (set clients slot (Some n)) k None) (sym e) ∙ at)))
              ∣ own known ∣₁)
          | inr other ↦ ∥∥₁_map (all known j m (sym (get_or-set_other clients slot j (Some n) None other) ∙ at))
              (λ h. others_kept s after table next last slot j m apart come others other (rest j other) h)
        ]

    -- no client in a place any more
    pub all_remove : (s : Serving P) (table : List (Option Link)) (clients : List (Option (Client S))) (slot : ℕ)
        → slot < length clients
        → AreFollowed turns starts frames pool gives takes s table clients
        → AreFollowed turns starts frames pool gives takes s table (set clients slot None)
    all_remove s table clients slot within all = λ known j m at. elim (cases_eq j slot) [
      | inl e ↦ absurd (let none : get_or (set clients slot None) j None ≡ None =
          ap (λ k. get_or (set clients slot None) k None) e ∙ get_or-set_same clients slot None None within in
          cc (none, at))
      | inr other ↦ all known j m (sym (get_or-set_other clients slot j None None other) ∙ at)
    ]

    -- one more place
    pub all_pushed : (s : Serving P) (table : List (Option Link)) (clients : List (Option (Client S)))
        → AreFollowed turns starts frames pool gives takes s table clients
        → AreFollowed turns starts frames pool gives takes s table (clients ++ None ∷ [])
    all_pushed s table clients all = λ known j m at. all known j m (sym (none_pushed clients j) ∙ at)

    pub all_none : (s : Serving P) (table : List (Option Link)) (clients : List (Option (Client S))) → clients ≡ []
        → AreFollowed turns starts frames pool gives takes s table clients
    all_none s table clients none =
        λ known j m at. absurd (let is : get_or clients j None ≡ None =
        ap (λ (k : List (Option (Client S))). get_or k j None) none in cc (is, at))

    pub all_grown : {T E : Type 0} (r : Result T E) (s : Serving P) (table : List (Option Link))
        (clients next : List (Option (Client S))) → next ≡ (if is_ok r then clients ++ None ∷ [] else clients)
        → AreFollowed turns starts frames pool gives takes s table clients
        → AreFollowed turns starts frames pool gives takes s table next
    all_grown (Ok x) s table clients next same all =
        subst (λ (k : List (Option (Client S))). AreFollowed turns starts frames pool gives takes s table k) (sym same)
        (all_pushed s table clients all)
    all_grown (Err e) s table clients next same all =
        subst (λ (k : List (Option (Client S))). AreFollowed turns starts frames pool gives takes s table k) (sym same)
        all

    -- a client gets a connection, or none
    pub all_connected : (r : Bool) (s after : Serving P) (table next : List (Option Link)) (last : ℕ)
        (clients : List (Option (Client S))) (slot n : ℕ) → AreApart table → HaveCome s.number last table
        → LinksStay turns starts pool s after → is_some (link_at table slot) ≡ false → n ≡ after.number
        → (r ≡ true → (c : ℕ) × (link_at next slot ≡ Some (record { conn = c; generation = n }))
        × ∥ HasVisited turns starts pool c [] [] false after.current ∥₁)
        → (r ≡ true → (c : ℕ) × (next ≡ set table slot (Some (record { conn = c; generation = n }))))
        → (r ≡ false → next ≡ table)
        → AreFollowed turns starts frames pool gives takes s table clients
        → AreFollowed turns starts frames pool gives takes after next clients
    all_connected false s after table next last clients slot n apart come stay none number begun given refused
        all =
        all_stay s after table next last clients come stay (λ j. table_rest next table (refused refl) j) all
    all_connected true s after table next last clients slot n apart come stay none number begun given refused
        all =
        let b = begun refl in
        let l : Link = record { conn = b.0; generation = n } in
        all_linked s after table next last clients slot l apart come
        (others_stay s after (link_at table slot) stay)
        (λ j other. set_rest table next slot (Some (record { conn = (given refl).0; generation = n })) (given refl).1 j
        other) none b.1
        (∥∥₁_map b.2 (λ (v : HasVisited turns starts pool b.0 [] [] false after.current). visited_current after l [] []
        number v)) all

    pub all_set_none : (s : Serving P) (table : List (Option Link)) (clients : List (Option (Client S))) (slot : ℕ)
        (place : Option (Client S)) → slot < length clients → place ≡ None
        → AreFollowed turns starts frames pool gives takes s table clients
        → AreFollowed turns starts frames pool gives takes s table (set clients slot place)
    all_set_none s table clients slot place within none all =
        subst (λ (k : Option (Client S)). AreFollowed turns starts frames pool gives takes s table (set clients slot k))
        (sym none) (all_remove s table clients slot within all)

    -- no client is in a place past the end
    pub all_past : (s after : Serving P) (table next : List (Option Link)) (last : ℕ)
        (clients : List (Option (Client S))) (slot : ℕ) → AreApart table → HaveCome s.number last table
        → Others s after (link_at table slot) → ((j : ℕ) → j ≢ slot → link_at next j ≡ link_at table j)
        → length clients ≤ slot
        → AreFollowed turns starts frames pool gives takes s table clients
        → AreFollowed turns starts frames pool gives takes after next clients
    all_past s after table next last clients slot apart come others rest past all =
        λ known j c at. elim (cases_eq j slot) [
          | inl e ↦ absurd (let none : get_or clients j None ≡ None = ap (λ k. get_or clients k None) e
              ∙ none_past clients slot past in cc (none, at))
          | inr other ↦
              ∥∥₁_map (all known j c at) (λ h. others_kept s after table next last slot j c apart come others other
              (rest j other) h)
        ]

    -- the client that was at a place
    pub known_taken : (s : Serving P) (table : List (Option Link)) (clients : List (Option (Client S))) (slot : ℕ)
        (place taken : Option (Client S)) → slot < length clients → place ≡ get_or clients slot place → taken ≡ place
        → AreFollowed turns starts frames pool gives takes s table clients
        → IfSome taken (λ c. HasKnownHistory turns starts frames pool gives takes c)
    known_taken s table clients slot place None within is same all = tt
    known_taken s table clients slot place (Some c) within is same all =
        known_at s table clients slot c (at_place clients slot place c within is (sym same)) all

    pub known_found : {R : Type 0} (now : R → Client S) (found : Option R) (s : Serving P) (table : List (Option Link))
        (clients : List (Option (Client S))) (slot : ℕ) → IfSome found (λ k. get_or clients slot None ≡ Some (now k))
        → AreFollowed turns starts frames pool gives takes s table clients
        → IfSome found (λ k. HasKnownHistory turns starts frames pool gives takes (now k))
    known_found now None s table clients slot is all = tt
    known_found now (Some k) s table clients slot is all = known_at s table clients slot (now k) is all
