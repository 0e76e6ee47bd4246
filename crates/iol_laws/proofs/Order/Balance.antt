-- The number of descriptors of an object after each event.
use Rattle.std.proofs.Common.{inl, inr, ◌≡◌, ◌≢◌, ℕ, ◌+◌, ◌-◌, ◌<◌, ◌≤◌, ◌==◌, List, [], ◌∷◌, ◌++◌, length, take, drop}
use Rattle.std.proofs.Common.{get_or, set, ap, ◌∙◌, refl, sym, subst, arith, Option, Some, None, true, false, Bool}
use Rattle.std.specs.Prelude.{fold, slice_set, sum_by, option_map, unwrap_or, not, is_none, ◌&&◌, if◌then◌else◌}
use Rattle.std.specs.Option.{option_map_or}
use Rattle.std.proofs.lemmas.Bool.{cases_eq}
use Rattle.std.proofs.lemmas.Bool.Decides.{nat_tests}
use Rattle.std.proofs.lemmas.List.Sums.{sum_by-cons, sum_by-set, sum_by_push}
use Rattle.iol_core.specs.Text.{Text, bytes_of}
use Rattle.iol_core.specs.NumberedLists.{in_place, lowest, numbered_or, placed, with_numbered}
use Rattle.iol_core.specs.State.{State, Domain, Pipe, Connection, domain, is_live, descriptor, content, pipe_at}
use Rattle.iol_core.specs.State.{conn_at, new_domain, no_domain, new_pipe, with_domain, with_pipe, with_conn}
use Rattle.iol_core.specs.State.{with_content}
use Rattle.iol_core.specs.Meaning.{first}
use Rattle.iol_core.specs.Run.{called, meaning}
use Rattle.iol_core.specs.Calls.Domains.{exit}
use Rattle.iol_core.specs.Calls.Descriptors as fds
use Rattle.iol_core.specs.Calls.Files.{open_on}
use Rattle.iol_core.specs.Calls.Outside.{conn_new}
use Rattle.iol_core.specs.Calls.Reads as reading
use Rattle.iol_core.specs.Calls.Writes as writing
use Rattle.iol_core.specs.Calls.Writes.{is_file}
use Rattle.iol_core.specs.declared.refusals.Refusal.TheVariants as refuse
use Rattle.iol_core.specs.declared.descriptors.How.TheVariants as ways
use Rattle.iol_core.specs.declared.descriptors.Descriptor.{Descriptor}
use Rattle.iol_core.specs.declared.descriptors.Descriptor.TheVariants as on
use Rattle.iol_core.specs.declared.events.Call.{Call}
use Rattle.iol_core.specs.declared.events.Call.TheVariants as call
use Rattle.iol_core.specs.declared.events.Event.{Event}
use Rattle.iol_core.specs.declared.events.Event.TheVariants as event
use Rattle.iol_core.proofs.Lookups.{domain-same}
use Rattle.iol_core.proofs.TestedLists.{passed, when-none}
use Rattle.iol_laws.specs.Frame.{is_conn}
use Rattle.iol_laws.specs.Order.{stands, IsOrderly, Once}
use Rattle.iol_laws.proofs.Changes.{Change, OnDomain, OnPipe, OnConn, Ends, Opens, Sets, EndsReads, EndsWrites, IsUsed}
use Rattle.iol_laws.proofs.Changes.{IsTaken, IsLeft, Receives, Sends, Closes, NewDomain, NewPipe, NewConn, changed}
use Rattle.iol_laws.proofs.Changes.{domain_by, handed, kept_called}
use Rattle.iol_laws.proofs.Connections.{conn-made, conn-push, conn-unmade, conns_conn, conns_same, once-with_conn}
use Rattle.iol_laws.proofs.Domains.{domains-all_closed, domains-closed_on, domains-with_conn, in-range, live-first}
use Rattle.iol_laws.proofs.Domains.{live-numbered, both-live}
use Rattle.iol_laws.proofs.Frame.Pipes.{pipes_same, pipes-with_conn}
use Rattle.iol_laws.proofs.Order.Closes.{and-not, may_shut, once-closed_on, one_remains, shut_as, shut_closed}
use Rattle.iol_laws.proofs.Order.DomainEnd.{live-with}
use Rattle.iol_laws.proofs.Order.Ends.{conn-used, is_used, pipe-none, pipe-other, pipe-there, stands-conn, stands-pipe}
use Rattle.iol_laws.proofs.Order.Ends.{stands-same}
use Rattle.iol_laws.proofs.Streams.WaitingConn.{waiting-is}
use Rattle.iol_laws.proofs.Tests.{is_some-or, itself}
use Rattle.iol_laws.proofs.Order.Counts.{Balanced, is_on, IsEnd, at-most, balanced_of, bit, count, file-off, hits}
use Rattle.iol_laws.proofs.Order.Counts.{not-on, tally, tally_in, tally-file, tally-most, tally-placed, tally-set}

-- After a change.

-- The numbers of connections are unique, and descriptors are balanced. Each change preserves both together.
abbrev Fit : State → Type 0
Fit s = Once s.conns × Balanced s

-- the numbers of descriptors and the existing objects are unchanged
balanced_same : (s t : State) → Balanced s → ((x : Descriptor) → IsEnd x → count t x ≡ count s x)
    → ((x : Descriptor) → stands t x ≡ stands s x) → Balanced t
balanced_same s t was counts objects x end = counts x end ∙ (was x end ∙ ap bit (sym (objects x)))

-- the number of descriptors of each object, and that of the object itself (0 or 1), grow equally
balanced_more : (s t : State) → Balanced s
    → ((x : Descriptor) → IsEnd x → (n : ℕ) × (count t x ≡ count s x + n) × (bit (stands t x) ≡ bit (stands s x) + n))
    → Balanced t
balanced_more s t was each x end = (let it = each x end in omega (arith, was x end, it.1, it.2))

-- the number of descriptors of each object, and that of the object itself (0 or 1), fall equally
balanced_less : (s t : State) → Balanced s
    → ((x : Descriptor) → IsEnd x → (n : ℕ) × (count t x + n ≡ count s x) × (bit (stands t x) + n ≡ bit (stands s x)))
    → Balanced t
balanced_less s t was each x end = (let it = each x end in omega (arith, was x end, it.1, it.2))

count-numbered : (x : Descriptor) (s : State) (d : ℕ) (y : Domain Text) → 0 < d → d ≤ length s.domains
    → count (with_domain s d y) x + tally_in x (domain s d) ≡ count s x + tally_in x y
unfolding domain with_domain
count-numbered x s d y lo hi =
    let some : d ≢ 0 = λ z. omega (arith, lo, z) in
    let new : with_numbered s.domains d y ≡ set s.domains (d - 1) y = grind (arith, nat_tests, some) in
    let old : numbered_or s.domains d no_domain ≡ get_or s.domains (d - 1) no_domain = grind (arith, nat_tests, some) in
    omega (
      arith,
      sum_by-set (tally_in x) s.domains (d - 1) y no_domain (omega (arith, lo, hi)),
      ap (sum_by (tally_in x)) new,
      ap (tally_in x) old,
    )

count-with : (x : Descriptor) (s : State) (d : ℕ) (y : Domain Text) → is_live s d ≡ true
    → count (with_domain s d y) x + tally_in x (domain s d) ≡ count s x + tally_in x y
count-with x s d y live = (let range = live-numbered s d live in count-numbered x s d y range.0 range.1)

count-kept : (x : Descriptor) (s : State) (d : ℕ) (y : Domain Text) → tally_in x y ≡ tally_in x (domain s d)
    → count (with_domain s d y) x ≡ count s x
count-kept x s d y same = elim (in-range s d) [
  | inl range ↦ omega (arith, count-numbered x s d y range.0 range.1, same)
  | inr none ↦ ap (λ t. count t x) (none y)
]

count-same : (s t : State) (x : Descriptor) → t.domains ≡ s.domains → count t x ≡ count s x
count-same s t x same = ap (sum_by (tally_in x)) same

-- the number of descriptors after one is opened or closed
count-opened : (x : Descriptor) (s : State) (d : ℕ) (y : Descriptor) → is_live s d ≡ true
    → count (fds.opened s d y) x ≡ count s x + hits x (Some y)
count-opened x s d y live =
    omega (arith, count-with x s d (domain_by (Opens y) (domain s d)) live, tally-placed x (domain s d).fds y)

count-freed : (x : Descriptor) (s : State) (d fd : ℕ) → is_live s d ≡ true
    → count (fds.with_fds s d (fds.freed s d fd)) x + hits x (descriptor s d fd) ≡ count s x
count-freed x s d fd live =
    omega (
      arith,
      count-with x s d (domain_by (Sets fd None) (domain s d)) live,
      tally-set x (domain s d).fds fd None (not-on x),
    )

stands-domain : (s : State) (d : ℕ) (y : Domain Text) (x : Descriptor) → stands (with_domain s d y) x ≡ stands s x
unfolding with_domain
stands-domain s d y x = stands-same s (with_domain s d y) x refl refl

fit_domain : (s : State) (d : ℕ) (y : Domain Text)
    → ((x : Descriptor) → IsEnd x → tally_in x y ≡ tally_in x (domain s d)) → Fit s → Fit (with_domain s d y)
unfolding with_domain
fit_domain s d y same was =
    (was.0, balanced_same s (with_domain s d y) was.1 (λ x end. count-kept x s d y (same x end)) (stands-domain s d y))

fit_pipe : (s : State) (p : ℕ) (y : Pipe) → y.reading ≡ (pipe_at s p).reading → y.writing ≡ (pipe_at s p).writing
    → Fit s → Fit (with_pipe s p y)
unfolding with_pipe
fit_pipe s p y reads writes was = (
  was.0,
  balanced_same s (with_pipe s p y) was.1 (λ x end. count-same s (with_pipe s p y) x refl)
      (stands-pipe s p y reads writes),
)

fit_conn : (s : State) (c : ℕ) (y : Connection) → y.accepted ≡ (conn_at s c).accepted → y.closed ≡ (conn_at s c).closed
    → Fit s → Fit (with_conn s c y)
fit_conn s c y accepted closed was = (
  once-with_conn s c y was.0,
  balanced_same s (with_conn s c y) was.1 (λ x end. count-same s (with_conn s c y) x (domains-with_conn s c y))
      (stands-conn s c y was.0 accepted closed),
)

-- domains, connections and pipes are unchanged
fit_rest : (s t : State) → t.domains ≡ s.domains → t.conns ≡ s.conns → t.pipes ≡ s.pipes → Fit s → Fit t
fit_rest s t domains conns pipes was = (
  subst (λ (l : List (ℕ × Connection)). Once l) (sym conns) was.0,
  balanced_same s t was.1 (λ x end. count-same s t x domains) (λ x. stands-same s t x conns pipes),
)

-- whether a change may open or close an end of a pipe or a connection
abbrev opens : Change → Bool
opens (OnDomain d Ends) = true
opens (OnDomain d (Opens y)) = not (is_file (Some y))
opens (OnDomain d (Sets fd o)) = true
opens (OnPipe p EndsReads) = true
opens (OnPipe p EndsWrites) = true
opens (OnConn c (IsUsed Closes)) = true
opens (OnConn c IsTaken) = true
opens NewPipe = true
opens (NewConn p) = true
opens c = false

fit_changed : (s : State) (c : Change) → opens c ≡ false → Fit s → Fit (changed s c)
unfolding with_content
fit_changed s (OnDomain d Ends) un was = absurd (cc)
fit_changed s (OnDomain d (Opens y)) un was =
    fit_domain s d _ (λ x end. tally-placed x (domain s d).fds y
    ∙ omega (arith, file-off x (Some y) (is_open_file y un))) was
  where
    is_open_file : (y : Descriptor) → not (is_file (Some y)) ≡ false → is_file (Some y) ≡ true
    is_open_file (on.File f at mode) un = refl
    is_open_file y un = absurd (cc)
fit_changed s (OnDomain d (Sets fd o)) un was = absurd (cc)
fit_changed s (OnDomain d y) un was = fit_domain s d _ (λ x end. refl) was
fit_changed s (OnPipe p EndsReads) un was = absurd (cc)
fit_changed s (OnPipe p EndsWrites) un was = absurd (cc)
fit_changed s (OnPipe p y) un was = fit_pipe s p _ refl refl was
fit_changed s (OnConn c (IsUsed Closes)) un was = absurd (cc)
fit_changed s (OnConn c IsTaken) un was = absurd (cc)
fit_changed s (OnConn c (IsLeft ways.Done)) un was = fit_conn s c _ refl refl was
fit_changed s (OnConn c (IsLeft ways.Gone)) un was = fit_conn s c _ refl refl was
fit_changed s (OnConn c y) un was = fit_conn s c _ refl refl was
fit_changed s NewDomain un was = (
  was.0,
  balanced_same s (changed s NewDomain) was.1 (λ x end. sum_by_push (tally_in x) s.domains new_domain
      ∙ omega arith) (λ x. stands-same s (changed s NewDomain) x refl refl),
)
fit_changed s NewPipe un was = absurd (cc)
fit_changed s (NewConn p) un was = absurd (cc)
fit_changed s c un was = fit_rest s (changed s c) refl refl refl was

-- Closing.

stands-closed : (s : State) (o : Option Descriptor) (x : Descriptor) → Once s.conns → IsEnd x
    → hits x o ≤ bit (stands s x) → bit (stands (fds.closed_on s o) x) + hits x o ≡ bit (stands s x)
stands-closed s o x once end within = ap (λ b. bit b + hits x o) (left x end) ∙ both (stands s x) (is_on x o) within
  where
    both : (a h : Bool) → bit h ≤ bit a → bit (a && not h) + bit h ≡ bit a
    both true true within = omega arith
    both true false within = omega arith
    both false true within = absurd (omega (arith, within))
    both false false within = omega arith

    used : (b : Bool) (k : Connection) → is_used (if b then shut_as k else k) ≡ (is_used k && not b)
    used true k = and-not (shut_as k).accepted (shut_as k).closed (shut_closed k) ∙ sym (and-not (is_used k) true refl)
    used false k = grind arith

    left : (x : Descriptor) → IsEnd x → stands (fds.closed_on s o) x ≡ (stands s x && not (is_on x o))
    left (on.File f at mode) end = absurd (cc)
    left (on.ReadEnd p) end = (may_shut s o p).reading
    left (on.WriteEnd p) end = (may_shut s o p).writing
    left (on.Connection c) end = ap is_used (one_remains s o c once) ∙ used (is_conn c o) (conn_at s c)

stands-all_closed : (s : State) (list : List (Option Descriptor)) (x : Descriptor) → Once s.conns → IsEnd x
    → tally x list ≤ bit (stands s x) → bit (stands (fold fds.closed_on s list) x) + tally x list ≡ bit (stands s x)
stands-all_closed s [] x once end within = omega arith
stands-all_closed s (o ∷ list) x once end within =
    let sum = sum_by-cons (hits x) o list in
    let one = stands-closed s o x once end (omega (arith, within, sum)) in
    let rest =
    stands-all_closed (fds.closed_on s o) list x (once-closed_on s o once) end (omega (arith, within, sum, one)) in
    omega (arith, sum, one, rest)

exit_balanced : (s : State) (by : ℕ) → is_live s by ≡ true → Fit s → Balanced (exit s by).after
unfolding with_domain
exit_balanced s by live was = balanced_less s (exit s by).after was.1 each
  where
    counts : (x : Descriptor) → count (exit s by).after x + tally x (domain s by).fds ≡ count s x
    counts x =
        omega (
          arith,
          count-same (with_domain s by no_domain) (exit s by).after x
              (ap (λ (ds : List (Domain Text)). with_numbered ds by no_domain)
              (domains-all_closed s (domain s by).fds)),
          count-with x s by no_domain live,
        )

    each : (x : Descriptor) → IsEnd x → (n : ℕ) × (count (exit s by).after x + n ≡ count s x)
        × (bit (stands (exit s by).after x) + n ≡ bit (stands s x))
    each x end = (
      tally x (domain s by).fds,
      counts x,
      ap (λ b. bit b + tally x (domain s by).fds)
          (stands-domain (fold fds.closed_on s (domain s by).fds) by no_domain x)
          ∙ stands-all_closed s (domain s by).fds x was.0 end (omega (arith, tally-most s x by, was.1 x end)),
    )

close_balanced : (s : State) (by fd : ℕ) (o : Option Descriptor) → descriptor s by fd ≡ o → is_live s by ≡ true → Fit s
    → Balanced (fds.with_fds (fds.closed_on s o) by (fds.freed s by fd))
close_balanced s by fd o is live was =
    balanced_less s (fds.with_fds (fds.closed_on s o) by (fds.freed s by fd)) was.1
    (λ x end. (hits x o, counts x, objects x end))
  where
    same : domain (fds.closed_on s o) by ≡ domain s by
    same = domain-same s (fds.closed_on s o) by (domains-closed_on s o)

    freed : fds.with_fds (fds.closed_on s o) by (fds.freed s by fd) ≡ fds.with_fds (fds.closed_on s o) by
        (fds.freed (fds.closed_on s o) by fd)
    freed = ap (λ (y : Domain Text). fds.with_fds (fds.closed_on s o) by (slice_set y.fds fd None)) (sym same)

    counts : (x : Descriptor) → count (fds.with_fds (fds.closed_on s o) by (fds.freed s by fd)) x + hits x o ≡ count s x
    counts x =
        ap (λ t. count t x + hits x o) freed
        ∙ ap
        (λ (z : Option Descriptor).
        count (fds.with_fds (fds.closed_on s o) by (fds.freed (fds.closed_on s o) by fd)) x + hits x z)
        (sym (ap (λ (y : Domain Text). in_place y.fds fd) same ∙ is))
        ∙ count-freed x (fds.closed_on s o) by fd (ap (λ (y : Domain Text). y.live) same ∙ live)
        ∙ count-same s (fds.closed_on s o) x (domains-closed_on s o)

    objects : (x : Descriptor) → IsEnd x → bit (stands (fds.with_fds (fds.closed_on s o) by (fds.freed s by fd)) x)
        + hits x o ≡ bit (stands s x)
    objects x end =
        ap (λ b. bit b + hits x o) (stands-domain (fds.closed_on s o) by _ x)
        ∙ stands-closed s o x was.0 end
        (omega (
          arith,
          ap (hits x) is,
          at-most (hits x) None (not-on x) (domain s by).fds fd,
          tally-most s x by,
          was.1 x end,
        ))

-- Giving, and opening.

give_balanced : (s : State) (by fd to : ℕ) (o : Option Descriptor) → descriptor s by fd ≡ o → is_live s by ≡ true
    → is_live s to ≡ true → Balanced s → Balanced (option_map_or (fds.given_to s by fd to) o s)
give_balanced s by fd to None is live to_live was = was
give_balanced s by fd to (Some y) is live to_live was =
    subst Balanced (sym (handed s by fd to (Some y))) (moved (fds.with_fds s by (fds.freed s by fd)) refl)
  where
    moved : (mid : State) → mid ≡ fds.with_fds s by (fds.freed s by fd) → Balanced (fds.opened mid to y)
    moved mid mid_is = balanced_same s (fds.opened mid to y) was
        (λ x end. omega (
          arith,
          count-opened x mid to y to_mid,
          ap (λ t. count t x) mid_is,
          count-freed x s by fd live,
          ap (hits x) is,
        ))
        (λ x. stands-domain mid to _ x ∙ (ap (λ t. stands t x) mid_is ∙ stands-domain s by _ x))
      where
        to_mid : is_live mid to ≡ true
        to_mid = ap (λ t. is_live t to) mid_is ∙ live-with s by to _ refl to_live

differ-off : (n m : ℕ) → n ≢ m → (n == m) ≡ false
differ-off n m differ = grind (arith, nat_tests, differ)

pipe_balanced : (s : State) (by : ℕ) → is_live s by ≡ true → Balanced s → Balanced (fds.pipe s by).after
unfolding with_domain
pipe_balanced s by live was =
    balanced_more s (fds.pipe s by).after was
    (λ x end. (
      hits x (Some (on.ReadEnd (lowest s.pipes))) + hits x (Some (on.WriteEnd (lowest s.pipes))),
      counts x,
      objects x end,
    ))
  where
    two : (x : Descriptor) (list ends both : List (Option Descriptor)) → list ≡ (domain s by).fds
        → ends ≡ placed list (lowest list) (on.ReadEnd (lowest s.pipes))
        → both ≡ placed ends (lowest ends) (on.WriteEnd (lowest s.pipes))
        → count (fds.with_fds s by both) x
        ≡ count s x + (hits x (Some (on.ReadEnd (lowest s.pipes))) + hits x (Some (on.WriteEnd (lowest s.pipes))))
    two x list ends both list_is ends_is both_is = omega (
      arith,
      count-with x s by (record (domain s by) { fds = both }) live,
      ap (tally x) list_is,
      ap (tally x) ends_is,
      ap (tally x) both_is,
      tally-placed x list (on.ReadEnd (lowest s.pipes)),
      tally-placed x ends (on.WriteEnd (lowest s.pipes)),
    )

    counts : (x : Descriptor)
        → count (fds.pipe s by).after x
        ≡ count s x + (hits x (Some (on.ReadEnd (lowest s.pipes))) + hits x (Some (on.WriteEnd (lowest s.pipes))))
    counts x = two x _ _ _ refl refl refl

    at : (q : ℕ)
        → pipe_at (fds.pipe s by).after q ≡ pipe_at (record s { pipes = placed s.pipes (lowest s.pipes) new_pipe }) q
    at q = pipes_same (record s { pipes = placed s.pipes (lowest s.pipes) new_pipe }) (fds.pipe s by).after (λ k. false)
        refl q refl

    objects : (x : Descriptor) → IsEnd x
        → bit (stands (fds.pipe s by).after x) ≡ bit (stands s x)
        + (hits x (Some (on.ReadEnd (lowest s.pipes))) + hits x (Some (on.WriteEnd (lowest s.pipes))))
    objects (on.File f mode_at mode) end = absurd (cc)
    objects (on.Connection c) end =
        ap (λ k. bit (is_used k)) (conns_same s (fds.pipe s by).after (λ k. false) refl c refl) ∙ omega arith
    objects (on.ReadEnd q) end = elim (cases_eq (lowest s.pipes) q) [
      | inr differ ↦
          omega (
            arith,
            ap (λ (k : Pipe). bit k.reading) (at q ∙ pipe-other s q differ),
            ap bit (differ-off (lowest s.pipes) q differ),
          )
      | inl same ↦
          subst (λ n. bit (pipe_at (fds.pipe s by).after n).reading ≡ bit (pipe_at s n).reading
          + (bit (lowest s.pipes == n) + 0)) same
          (omega (
            arith,
            ap (λ (k : Pipe). bit k.reading) (at (lowest s.pipes) ∙ pipe-there s),
            ap (λ (k : Pipe). bit k.reading) (pipe-none s),
            ap bit (itself (lowest s.pipes)),
          ))
    ]
    objects (on.WriteEnd q) end = elim (cases_eq (lowest s.pipes) q) [
      | inr differ ↦
          omega (
            arith,
            ap (λ (k : Pipe). bit k.writing) (at q ∙ pipe-other s q differ),
            ap bit (differ-off (lowest s.pipes) q differ),
          )
      | inl same ↦
          subst (λ n. bit (pipe_at (fds.pipe s by).after n).writing ≡ bit (pipe_at s n).writing
          + (0 + bit (lowest s.pipes == n))) same
          (omega (
            arith,
            ap (λ (k : Pipe). bit k.writing) (at (lowest s.pipes) ∙ pipe-there s),
            ap (λ (k : Pipe). bit k.writing) (pipe-none s),
            ap bit (itself (lowest s.pipes)),
          ))
    ]

accept_balanced : (s : State) (by : ℕ) → IsOrderly s → is_live s by ≡ true → is_none (fds.waiting s by) ≡ false
    → Balanced s → Balanced (fds.accept s by).after
accept_balanced s by order live some was =
    accepted (unwrap_or (fds.waiting s by) 0)
    (waiting-is s by (unwrap_or (fds.waiting s by) 0) order (is_some-or (fds.waiting s by) some)).0
  where
    accepted : (c : ℕ) → (conn_at s c).accepted ≡ false
        → Balanced (fds.opened (with_conn s c (record (conn_at s c) { accepted = true })) by (on.Connection c))
    accepted c it = by_mid (with_conn s c (record (conn_at s c) { accepted = true })) refl
      where
        by_mid : (mid : State) → mid ≡ with_conn s c (record (conn_at s c) { accepted = true })
            → Balanced (fds.opened mid by (on.Connection c))
        by_mid mid mid_is = balanced_more s (fds.opened mid by (on.Connection c)) was (λ x end. (
          hits x (Some (on.Connection c)),
          count-opened x mid by (on.Connection c) (ap (λ (z : Domain Text). z.live) (domain-same s mid by domains)
              ∙ live) ∙ ap (λ n. n + hits x (Some (on.Connection c))) (count-same s mid x domains),
          ap bit (stands-domain mid by _ x) ∙ objects x end,
        ))
          where
            domains : mid.domains ≡ s.domains
            domains = ap (λ (t : State). t.domains) mid_is ∙ domains-with_conn s c _

            pipes : mid.pipes ≡ s.pipes
            pipes = ap (λ (t : State). t.pipes) mid_is ∙ pipes-with_conn s c _

            new : is_used (conn_at mid c) ≡ true
            new = ap (λ t. is_used (conn_at t c)) mid_is
                ∙ (conn-used s c (record (conn_at s c) { accepted = true }) order.once refl
                ∙ ap (λ b. true && not b) (order.waits c it))

            objects : (x : Descriptor) → IsEnd x
                → bit (stands mid x) ≡ bit (stands s x) + hits x (Some (on.Connection c))
            objects (on.File f at mode) end = absurd (cc)
            objects (on.ReadEnd p) end = ap (λ (k : Pipe). bit k.reading) (pipes_same s mid (λ q. false) pipes p refl)
                ∙ omega arith
            objects (on.WriteEnd p) end = ap (λ (k : Pipe). bit k.writing) (pipes_same s mid (λ q. false) pipes p refl)
                ∙ omega arith
            objects (on.Connection k) end = elim (cases_eq c k) [
              | inr differ ↦
                  omega (
                    arith,
                    ap (λ t. bit (is_used (conn_at t k))) mid_is,
                    ap (λ z. bit (is_used z)) (conns_conn s c (record (conn_at s c) { accepted = true }) k differ),
                    ap bit (differ-off c k differ),
                  )
              | inl same ↦ subst (λ n. bit (is_used (conn_at mid n)) ≡ bit (is_used (conn_at s n)) + bit (c == n)) same
                  (omega (arith, ap bit new, ap (λ b. bit (b && not (conn_at s c).closed)) it, ap bit (itself c)))
            ]

-- Reading, writing and seeking.

read_fit : (s : State) (by fd : ℕ) (o : Option Descriptor) (n : ℕ) → descriptor s by fd ≡ o → Fit s
    → Fit (reading.read_on s by fd o n)
read_fit s by fd (Some (on.File f at mode)) n is was =
    fit_domain s by _ (λ x end. tally-file x (domain s by).fds fd (Some (on.File f (at + n) mode)) refl (ap is_file is))
    was
read_fit s by fd (Some (on.ReadEnd p)) n is was = fit_pipe s p _ refl refl was
read_fit s by fd (Some (on.Connection c)) n is was = fit_conn s c _ refl refl was
read_fit s by fd o n is was = was

written_fit : (s : State) (by fd : ℕ) (o : Option Descriptor) (w : Text) → descriptor s by fd ≡ o → Fit s
    → Fit (writing.written s by fd o w)
unfolding with_content
written_fit s by fd (Some (on.File f at mode)) w is was =
    let filled : State = with_content s f (take at (content s f) ++ bytes_of w ++ drop (at + length w) (content s f)) in
    let there = ap (λ (y : Domain Text). is_file (in_place y.fds fd)) (domain-same s filled by refl) ∙ ap is_file is in
    fit_domain filled by _ (λ x end. tally-file x (domain filled by).fds fd (Some (on.File f (at + length w) mode)) refl
    there) (fit_rest s filled refl refl refl was)
written_fit s by fd (Some (on.WriteEnd p)) w is was = fit_pipe s p _ refl refl was
written_fit s by fd (Some (on.Connection c)) w is was = fit_conn s c _ refl refl was
written_fit s by fd o w is was = was

seek_fit : (s : State) (by fd at : ℕ) (o : Option Descriptor) → descriptor s by fd ≡ o → is_none (open_on o) ≡ false
    → Fit s → Fit (fds.with_descriptor s by fd (option_map (λ x. on.File x.0 at x.2) (open_on o)))
seek_fit s by fd at (Some (on.File f was_at mode)) is some was =
    fit_domain s by _ (λ x end. tally-file x (domain s by).fds fd (Some (on.File f at mode)) refl (ap is_file is)) was
seek_fit s by fd at o is some was = absurd (cc)

-- After each event.

balanced_called : (s : State) (by : ℕ) (k : Call) → IsOrderly s → Fit s → first (called s by k).refusals ≡ None
    → Balanced (called s by k).after
balanced_called s by call.Exit order was unrefused = exit_balanced s by (live-first s by _ unrefused) was
balanced_called s by call.Pipe order was unrefused = pipe_balanced s by (live-first s by _ unrefused) was.1
balanced_called s by (call.GiveFd f to) order was unrefused =
    (let both = both-live s by to _ unrefused in give_balanced s by f to (descriptor s by f) refl both.0 both.1 was.1)
balanced_called s by (call.Close f) order was unrefused =
    close_balanced s by f (descriptor s by f) refl (live-first s by _ unrefused) was
balanced_called s by (call.Seek f at) order was unrefused =
    (seek_fit s by f at (descriptor s by f) refl
    (when-none refuse.WrongMode (is_none (open_on (descriptor s by f)))
    (passed (called s by (call.Seek f at)).refusals 2 unrefused)) was).1
balanced_called s by (call.IolRead f n) order was unrefused =
    (fit_domain (reading.read_on s by f (descriptor s by f) (length (reading.read_text s by (descriptor s by f) n))) by
    _ (λ x end. refl) (read_fit s by f (descriptor s by f) _ refl was)).1
balanced_called s by (call.IolWrite f a) order was unrefused = (written_fit s by f (descriptor s by f) _ refl was).1
balanced_called s by call.Accept order was unrefused =
    accept_balanced s by order (live-first s by _ unrefused)
    (when-none refuse.WouldBlock (is_none (fds.waiting s by))
    (passed (called s by call.Accept).refusals 2 unrefused)) was.1
balanced_called s by (call.Read f n) order was unrefused = (read_fit s by f (descriptor s by f) _ refl was).1
balanced_called s by (call.Write f bytes) order was unrefused = (written_fit s by f (descriptor s by f) _ refl was).1
balanced_called s by k order was unrefused =
    (kept_called Fit opens fit_changed s by k (λ u. true) (λ u e. absurd (cc (e))) refl refl was).1

-- a new connection is not accepted, so it does not count as existing
stands-conn_new : (s : State) (p : ℕ) → IsOrderly s → (x : Descriptor) → stands (conn_new s p).after x ≡ stands s x
stands-conn_new s p order (on.File f at mode) = refl
stands-conn_new s p order (on.ReadEnd q) =
    ap (λ (k : Pipe). k.reading) (pipes_same s (conn_new s p).after (λ k. false) refl q refl)
stands-conn_new s p order (on.WriteEnd q) =
    ap (λ (k : Pipe). k.writing) (pipes_same s (conn_new s p).after (λ k. false) refl q refl)
stands-conn_new s p order (on.Connection c) = elim (cases_eq s.next_conn c) [
  | inr differ ↦ ap is_used (conn-push s p c differ)
  | inl same ↦
      (let none = order.conns s.next_conn (omega arith) in
      subst (λ n. is_used (conn_at (conn_new s p).after n) ≡ is_used (conn_at s n)) same
      (ap is_used (conn-made s p none) ∙ sym (ap is_used (conn-unmade s s.next_conn none))))
]

pub balanced_meant : (s : State) (e : Event) → IsOrderly s → first (meaning s e).refusals ≡ None
    → Balanced (meaning s e).after
balanced_meant s e order unrefused = by e unrefused (order.once, balanced_of s order)
  where
    by : (e : Event) → first (meaning s e).refusals ≡ None → Fit s → Balanced (meaning s e).after
    by (event.Call d k) unrefused was = balanced_called s d k order was unrefused
    by (event.ConnNew p) unrefused was =
        balanced_same s (conn_new s p).after was.1 (λ x end. count-same s (conn_new s p).after x refl)
        (stands-conn_new s p order)
    by (event.Arrive c bytes) unrefused was = (fit_changed s (OnConn c (Receives bytes)) refl was).1
    by (event.PeerClosed c how) unrefused was = (fit_changed s (OnConn c (IsLeft how)) refl was).1
    by (event.Transmit c max) unrefused was = (fit_changed s (OnConn c (Sends max)) refl was).1
    by e unrefused was = was.1
