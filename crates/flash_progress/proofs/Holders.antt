-- A domain may read the pool of each connection that it has open: in a new state, and after each event.
use Rattle.std.proofs.Common.{inl, inr, ◌≡◌, ℕ, zero, suc, List, [], ap, ◌∙◌, refl, sym, subst, arith, Option, Some}
use Rattle.std.proofs.Common.{None, true, false}
use Rattle.std.specs.Prelude.{fold, slice_set, option_map, unwrap_or, is_none}
use Rattle.std.specs.Option.{option_map_or}
use Rattle.std.proofs.lemmas.Bool.{cases_eq}
use Rattle.iol_core.specs.Text.{Text}
use Rattle.iol_core.specs.NumberedLists.{in_place, lowest, placed}
use Rattle.iol_core.specs.State.{State, Domain, Connection, domain, descriptor, may_read, conn_at, new_domain}
use Rattle.iol_core.specs.State.{no_domain, new_state, text, with_domain, with_conn, with_content}
use Rattle.iol_core.specs.Meaning.{first}
use Rattle.iol_core.specs.Run.{called, meaning, StepsTo}
use Rattle.iol_core.specs.Calls.Aggregates as aggs
use Rattle.iol_core.specs.Calls.Descriptors as fds
use Rattle.iol_core.specs.Calls.Domains.{domain_new}
use Rattle.iol_core.specs.Calls.Files as files
use Rattle.iol_core.specs.Calls.Outside.{closed_by}
use Rattle.iol_core.specs.Calls.Reads as reading
use Rattle.iol_core.specs.Calls.Writes as writing
use Rattle.iol_core.specs.declared.refusals.Refusal.TheVariants as no
use Rattle.iol_core.specs.declared.descriptors.Descriptor.{Descriptor}
use Rattle.iol_core.specs.declared.descriptors.Descriptor.TheVariants as on
use Rattle.iol_core.specs.declared.descriptors.Mode.{Mode}
use Rattle.iol_core.specs.declared.descriptors.How.{How}
use Rattle.iol_core.specs.declared.descriptors.How.TheVariants as ways
use Rattle.iol_core.specs.declared.events.Call.{Call}
use Rattle.iol_core.specs.declared.events.Call.TheVariants as call
use Rattle.iol_core.specs.declared.events.Event.{Event}
use Rattle.iol_core.specs.declared.events.Event.TheVariants as event
use Rattle.iol_core.specs.declared.events.Reply.{Reply}
use Rattle.iol_core.specs.declared.events.Reply.TheVariants as reply
use Rattle.iol_core.proofs.Lookups.{domain-with_domain, domain-same, domain-push, domain-new_state}
use Rattle.iol_core.proofs.Places.{place-set, place-freed, place-placed}
use Rattle.iol_core.proofs.TestedLists.{passed, when-none, when-not}
use Rattle.iol_laws.specs.Order.{IsOrderly, Once}
use Rattle.iol_laws.proofs.Connections.{after-with_conn, conns_conn, conn-push, conn-unmade}
use Rattle.iol_laws.proofs.Domains.{domains-all_closed, domains-closed_on, domains-with_conn, domains-with_pipe}
use Rattle.iol_laws.proofs.Gives.{agg_given, fd_given}
use Rattle.iol_laws.proofs.Streams.WaitingConn.{waiting-is, opened-conn}
use Rattle.flash_progress.specs.Served.{MayReadConns}
use Rattle.flash_progress.proofs.Pools.{pool-stays}

-- ---- descriptors that a domain may have, by the pools that it may read

-- the domain may read the pool of this descriptor's connection, if it has one
abbrev May : State → (d : ℕ) → Descriptor → Type 0
May s d x = (c : ℕ) → x ≡ on.Connection c → may_read s d (conn_at s c).pool ≡ true

-- likewise for each descriptor in a list
abbrev AllMay : State → (d : ℕ) → List (Option Descriptor) → Type 0
AllMay s d xs = (fd : ℕ) (x : Descriptor) → in_place xs fd ≡ Some x → May s d x

-- likewise for the descriptors of each domain in the state u, by the pools that it may read in s
abbrev EachMay : (s u : State) → Type 0
EachMay s u = (d : ℕ) → AllMay s d (domain u d).fds

may-none : (s : State) (d : ℕ) → AllMay s d []
may-none s d zero x is = absurd (cc (is))
may-none s d (suc fd) x is = absurd (cc (is))

may-file : (s : State) (d f at : ℕ) (mode : Mode) → May s d (on.File f at mode)
may-file s d f at mode c is = absurd (cc (is))

may-placed : (s : State) (d n : ℕ) (xs : List (Option Descriptor)) (x : Descriptor) → AllMay s d xs → May s d x
    → AllMay s d (placed xs n x)
may-placed s d n xs x all one fd y is =
    elim (place-placed xs n fd x y is) [
      | inl new ↦ subst (λ (z : Descriptor). May s d z) new one
      | inr old ↦
          all fd y old
    ]

may-set : (s : State) (d n : ℕ) (xs : List (Option Descriptor)) (x : Descriptor) → AllMay s d xs → May s d x
    → AllMay s d (slice_set xs n (Some x))
may-set s d n xs x all one fd y is =
    elim (place-set xs n fd x y is) [ inl new ↦ subst (λ (z : Descriptor). May s d z) new one | inr old ↦ all fd y old ]

may-freed : (s u : State) (d f : ℕ) → AllMay s d (domain u d).fds → AllMay s d (fds.freed u d f)
may-freed s u d f all fd y is = all fd y (place-freed (domain u d).fds f fd y is)

-- ---- changes of domains

each-same : (s u v : State) → v.domains ≡ u.domains → EachMay s u → EachMay s v
each-same s u v same each d fd x is =
    each d fd x (sym (ap (λ (y : Domain Text). in_place y.fds fd) (domain-same u v d same)) ∙ is)

each-domain : (s u : State) (by : ℕ) (y : Domain Text) → AllMay s by y.fds → EachMay s u
    → EachMay s (with_domain u by y)
each-domain s u by y new each d fd x is = elim (domain-with_domain u by d y) [
  | inl both ↦ subst (λ e. May s e x) both.0 (new fd x (sym (ap (λ (z : Domain Text). in_place z.fds fd) both.1) ∙ is))
  | inr same ↦ each d fd x (sym (ap (λ (z : Domain Text). in_place z.fds fd) same) ∙ is)
]

each-fds : (s u : State) (by : ℕ) (xs : List (Option Descriptor)) → AllMay s by xs → EachMay s u
    → EachMay s (fds.with_fds u by xs)
each-fds s u by xs new each = each-domain s u by (record (domain u by) { fds = xs }) new each

each-opened : (s u : State) (by : ℕ) (x : Descriptor) → May s by x → EachMay s u → EachMay s (fds.opened u by x)
each-opened s u by x one each =
    each-fds s u by (placed (domain u by).fds (fds.next_fd u by) x)
    (may-placed s by (fds.next_fd u by) (domain u by).fds x (each by) one) each

each-moved : (s u : State) (by fd f at : ℕ) (mode : Mode) → EachMay s u
    → EachMay s (fds.with_descriptor u by fd (Some (on.File f at mode)))
each-moved s u by fd f at mode each =
    each-fds s u by _ (may-set s by fd (domain u by).fds (on.File f at mode) (each by) (may-file s by f at mode)) each

-- ---- after each call

each-read : (s : State) (by f : ℕ) (o : Option Descriptor) (n : ℕ) → EachMay s s
    → EachMay s (reading.read_on s by f o n)
each-read s by f (Some (on.File g at mode)) n each = each-moved s s by f g _ mode each
each-read s by f (Some (on.ReadEnd p)) n each = each-same s s _ (domains-with_pipe s p _) each
each-read s by f (Some (on.Connection c)) n each = each-same s s _ (domains-with_conn s c _) each
each-read s by f o n each = each

each-written : (s : State) (by f : ℕ) (o : Option Descriptor) (w : Text) → EachMay s s
    → EachMay s (writing.written s by f o w)
unfolding with_content
each-written s by f (Some (on.File g at mode)) w each =
    each-moved s (with_content s g _) by f g _ mode (each-same s s (with_content s g _) refl each)
each-written s by f (Some (on.WriteEnd p)) w each = each-same s s _ (domains-with_pipe s p _) each
each-written s by f (Some (on.Connection c)) w each = each-same s s _ (domains-with_conn s c _) each
each-written s by f o w each = each

each-sought : (s : State) (by f at : ℕ) (o : Option Descriptor) → EachMay s s
    → EachMay s (fds.with_descriptor s by f (option_map (λ x. on.File x.0 at x.2) (files.open_on o)))
each-sought s by f at (Some (on.File g was mode)) each = each-moved s s by f g at mode each
each-sought s by f at o each = each-fds s s by _ (may-freed s s by f (each by)) each

-- a domain that is given a connection may read its pool
may-given : (s : State) (to : ℕ) (x : Descriptor) → fds.denied_by s to (fds.needed_pool s (Some x)) ≡ None → May s to x
may-given s to (on.Connection c) unrefused = λ e is.
    let may = when-not (no.Denied (conn_at s c).pool) (may_read s to (conn_at s c).pool) unrefused in
    let same : c ≡ e = cc (is) in
    subst (λ n. may_read s to (conn_at s n).pool ≡ true) same may
may-given s to x unrefused = λ e is. absurd (cc (is))

each-given : (s : State) (by f to : ℕ) (x : Descriptor) → EachMay s s → May s by x → May s to x
    → EachMay s (fds.given_to s by f to x)
each-given s by f to x each mine theirs =
    fd_given (λ t. EachMay s t) s by f to x
    (λ same. each-fds s s by _
    (may-placed s by (lowest (fds.freed s by f)) (fds.freed s by f) x (may-freed s s by f (each by)) mine) each)
    (λ other. each-fds s (fds.opened s to x) by (fds.freed s by f) (may-freed s s by f (each by))
    (each-opened s s to x theirs each))

each-handed : (s : State) (by f to : ℕ) (o : Option Descriptor) → descriptor s by f ≡ o
    → fds.denied_by s to (fds.needed_pool s o) ≡ None → EachMay s s
    → EachMay s (option_map_or (fds.given_to s by f to) o s)
each-handed s by f to None is unrefused each = each
each-handed s by f to (Some x) is unrefused each =
    each-given s by f to x each (each by f x is) (may-given s to x unrefused)

each-pipe : (s : State) (by : ℕ) → EachMay s s → EachMay s (fds.pipe s by).after
each-pipe s by each =
    let ends = fds.with_read_end (domain s by).fds (lowest s.pipes) in
    let one = may-placed s by (lowest (domain s by).fds) (domain s by).fds (on.ReadEnd (lowest s.pipes)) (each by)
    (λ c is. absurd (cc (is))) in
    let two = may-placed s by (lowest ends) ends (on.WriteEnd (lowest s.pipes)) one (λ c is. absurd (cc (is))) in
    each-same s (fds.with_fds s by (placed ends (lowest ends) (on.WriteEnd (lowest s.pipes)))) (fds.pipe s by).after
    refl
    (each-fds s s by (placed ends (lowest ends) (on.WriteEnd (lowest s.pipes))) two each)

each-closed : (s : State) (by f : ℕ) → EachMay s s → EachMay s (fds.close s by f).after
each-closed s by f each =
    each-fds s (fds.closed_on s (descriptor s by f)) by (fds.freed s by f) (may-freed s s by f (each by))
    (each-same s s (fds.closed_on s (descriptor s by f)) (domains-closed_on s (descriptor s by f)) each)

each-new : (s : State) (by : ℕ) → EachMay s s → EachMay s (domain_new s by).after
each-new s by each d fd x is = elim (domain-push s new_domain d) [
  | inl same ↦ each d fd x (sym (ap (λ (z : Domain Text). in_place z.fds fd) same) ∙ is)
  | inr both ↦ may-none s d fd x (sym (ap (λ (z : Domain Text). in_place z.fds fd) both.1) ∙ is)
]

-- a domain that accepts a connection may read its pool
may-waiting : (s : State) (by : ℕ) (o : Option ℕ) → IsOrderly s → fds.waiting s by ≡ o → is_none o ≡ false
    → May s by (on.Connection (unwrap_or o 0))
may-waiting s by None order is some = absurd (cc (some))
may-waiting s by (Some c) order is some = λ e same.
    let n : c ≡ e = cc (same) in
    subst (λ k. may_read s by (conn_at s k).pool ≡ true) n (waiting-is s by c order is).1

each-accepted : (s : State) (by : ℕ) → IsOrderly s → first (fds.accept s by).refusals ≡ None → EachMay s s
    → EachMay s (fds.accept s by).after
each-accepted s by order unrefused each =
    let some = when-none no.WouldBlock (is_none (fds.waiting s by)) (passed (fds.accept s by).refusals 2 unrefused) in
    let c : ℕ = unwrap_or (fds.waiting s by) 0 in
    each-opened s (with_conn s c (record (conn_at s c) { accepted = true })) by (on.Connection c)
    (may-waiting s by (fds.waiting s by) order refl some)
    (each-same s s (with_conn s c (record (conn_at s c) { accepted = true })) (domains-with_conn s c _) each)

each-called : (s : State) (by : ℕ) (k : Call) → IsOrderly s → first (called s by k).refusals ≡ None → EachMay s s
    → EachMay s (called s by k).after
unfolding with_domain
each-called s by call.DomainNew order unrefused each = each-new s by each
each-called s by call.Exit order unrefused each =
    each-domain s (fold fds.closed_on s (domain s by).fds) by no_domain (may-none s by)
    (each-same s s (fold fds.closed_on s (domain s by).fds) (domains-all_closed s (domain s by).fds) each)
each-called s by (call.PoolCreate chunks list) order unrefused each =
    each-same s s (called s by (call.PoolCreate chunks list)).after refl each
each-called s by (call.PoolClose p) order unrefused each =
    each-same s s (called s by (call.PoolClose p)).after refl each
each-called s by (call.PoolAdmit p e) order unrefused each =
    each-same s s (called s by (call.PoolAdmit p e)).after refl each
each-called s by (call.AggGive x to) order unrefused each =
    agg_given (λ t. EachMay s t) s by x to (λ same. each-domain s s by _ (each by) each)
    (λ other. each-domain s (aggs.with_agg s to (text s by x)) by _ (each-domain s s to _ (each to) each by)
    (each-domain s s to _ (each to) each))
each-called s by (call.Show x) order unrefused each = each
each-called s by (call.FileNew name p) order unrefused each =
    each-same s s (called s by (call.FileNew name p)).after refl each
each-called s by (call.OpenFile name mode) order unrefused each = each-opened s s by _ (λ c is. absurd (cc (is))) each
each-called s by call.Pipe order unrefused each = each-pipe s by each
each-called s by (call.GiveFd f to) order unrefused each =
    each-handed s by f to (descriptor s by f) refl (passed (fds.give_fd s by f to).refusals 3 unrefused) each
each-called s by (call.Close f) order unrefused each = each-closed s by f each
each-called s by (call.Seek f at) order unrefused each = each-sought s by f at (descriptor s by f) each
each-called s by (call.Length f) order unrefused each = each
each-called s by (call.IolRead f n) order unrefused each =
    each-domain s (reading.read_on s by f (descriptor s by f) _) by _ (each-read s by f (descriptor s by f) _ each by)
    (each-read s by f (descriptor s by f) _ each)
each-called s by (call.IolWrite f x) order unrefused each = each-written s by f (descriptor s by f) _ each
each-called s by call.Accept order unrefused each = each-accepted s by order unrefused each
each-called s by (call.Fsync f) order unrefused each = each
each-called s by (call.Read f n) order unrefused each = each-read s by f (descriptor s by f) _ each
each-called s by (call.Write f bytes) order unrefused each = each-written s by f (descriptor s by f) _ each
each-called s by k order unrefused each = each-domain s s by _ (each by) each

-- ---- after each event

-- a connection that is changed keeps its pool, or is closed
pool-with : (s : State) (e : ℕ) (x : Connection) (c : ℕ) → Once s.conns → x.pool ≡ (conn_at s e).pool
    → (conn_at (with_conn s e x) c).closed ≡ false
    → (conn_at (with_conn s e x) c).pool ≡ (conn_at s c).pool
pool-with s e x c once same open_yet = elim (cases_eq e c) [
  | inr differ ↦ ap (λ (k : Connection). k.pool) (conns_conn s e x c differ)
  | inl one ↦ elim (after-with_conn s e x once) [
    | inl there ↦ ap (λ n. (conn_at (with_conn s e x) n).pool) (sym one)
        ∙ (ap (λ (k : Connection). k.pool) there ∙ (same ∙ ap (λ n. (conn_at s n).pool) one))
    | inr none ↦ absurd (let gone = ap (λ (k : Connection). k.closed) none in let here =
        ap (λ n. (conn_at (with_conn s e x) n).closed) one in cc (gone, here, open_yet))
  ]
]

closed_by-pool : (k : Connection) (how : How) → (closed_by k how).pool ≡ k.pool
closed_by-pool k ways.Done = refl
closed_by-pool k ways.Gone = refl

-- an event outside changes no domain, and no pool of an existing connection
outside-pool : (s : State) (e : Event) (c : ℕ) → IsOrderly s → ((d : ℕ) (k : Call) → e ≡ event.Call d k → ⊥)
    → (conn_at s c).closed ≡ false → (conn_at (meaning s e).after c).closed ≡ false
    → (conn_at (meaning s e).after c).pool ≡ (conn_at s c).pool
outside-pool s (event.Call d k) c order outside was open_yet = absurd (outside d k refl)
outside-pool s (event.ConnNew p) c order outside was open_yet = elim (cases_eq s.next_conn c) [
  | inr differ ↦ ap (λ (k : Connection). k.pool) (conn-push s p c differ)
  | inl same ↦ absurd (let none = conn-unmade s c (order.conns c (omega (arith, same))) in let gone =
      ap (λ (k : Connection). k.closed) none in cc (gone, was))
]
outside-pool s (event.Arrive e bytes) c order outside was open_yet = pool-with s e _ c order.once refl open_yet
outside-pool s (event.PeerClosed e how) c order outside was open_yet =
    pool-with s e (closed_by (conn_at s e) how) c order.once (closed_by-pool (conn_at s e) how) open_yet
outside-pool s (event.Transmit e max) c order outside was open_yet = pool-with s e _ c order.once refl open_yet
outside-pool s event.Flush c order outside was open_yet = refl
outside-pool s event.DropClean c order outside was open_yet = refl

outside-domains : (s : State) (e : Event) → ((d : ℕ) (k : Call) → e ≡ event.Call d k → ⊥)
    → (meaning s e).after.domains ≡ s.domains
outside-domains s (event.Call d k) outside = absurd (outside d k refl)
outside-domains s (event.ConnNew p) outside = refl
outside-domains s (event.Arrive e bytes) outside = domains-with_conn s e _
outside-domains s (event.PeerClosed e how) outside = domains-with_conn s e _
outside-domains s (event.Transmit e max) outside = domains-with_conn s e _
outside-domains s event.Flush outside = refl
outside-domains s event.DropClean outside = refl

-- `MayReadConns`, for lists of descriptors
each-now : (s : State) → MayReadConns s → EachMay s s
each-now s holds d fd x is c same = holds d fd c (is ∙ ap (λ (z : Descriptor). Some z) same)

module _ (s t : State) (order : IsOrderly s) (order_t : IsOrderly t) (readers : (d p : ℕ) → may_read s d p ≡ true
    → may_read t d p ≡ true) (holds : MayReadConns s) where
  called-holds : (by : ℕ) (k : Call) (r : Reply) → StepsTo s (event.Call by k) r t → EachMay s t → MayReadConns t
  called-holds by k r step each d fd c is =
      subst (λ p. may_read t d p ≡ true)
      (sym (pool-stays s t by k r c order.once step (opened-conn t d fd c order_t is).1))
      (readers d (conn_at s c).pool (each d fd (on.Connection c) is c refl))

  outside-holds : (e : Event) → ((d : ℕ) (k : Call) → e ≡ event.Call d k → ⊥) → t ≡ (meaning s e).after → MayReadConns t
  outside-holds e outside now d fd c is =
      let same : t.domains ≡ s.domains = ap (λ (u : State). u.domains) now ∙ outside-domains s e outside in
      let was : descriptor s d fd ≡ Some (on.Connection c) =
      sym (ap (λ (y : Domain Text). in_place y.fds fd) (domain-same s t d same)) ∙ is in
      let pool : (conn_at t c).pool ≡ (conn_at s c).pool = ap (λ (u : State). (conn_at u c).pool) now
      ∙ outside-pool s e c order outside (opened-conn s d fd c order was).1
      (ap (λ (u : State). (conn_at u c).closed) (sym now) ∙ (opened-conn t d fd c order_t is).1) in
      subst (λ p. may_read t d p ≡ true) (sym pool) (readers d (conn_at s c).pool (holds d fd c was))

  pub holds-step : (e : Event) (r : Reply) → StepsTo s e r t → MayReadConns t
  holds-step e (reply.Refused x) step = subst (λ (u : State). MayReadConns u) (sym step.1) holds
  holds-step (event.Call by k) r step =
      called-holds by k r step
      (subst (λ (u : State). EachMay s u) (sym step.2) (each-called s by k order step.0 (each-now s holds)))
  holds-step (event.ConnNew p) r step = outside-holds (event.ConnNew p) (λ d k is. cc (is)) step.2
  holds-step (event.Arrive e bytes) r step = outside-holds (event.Arrive e bytes) (λ d k is. cc (is)) step.2
  holds-step (event.PeerClosed e how) r step = outside-holds (event.PeerClosed e how) (λ d k is. cc (is)) step.2
  holds-step (event.Transmit e max) r step = outside-holds (event.Transmit e max) (λ d k is. cc (is)) step.2
  holds-step event.Flush r step = outside-holds event.Flush (λ d k is. cc (is)) step.2
  holds-step event.DropClean r step = outside-holds event.DropClean (λ d k is. cc (is)) step.2

-- in a new state no domain has a descriptor
pub holds-new : (slots : List (List ℕ)) → MayReadConns (new_state slots)
holds-new slots d fd c is = absurd (elim (domain-new_state slots d) [
  | inl new ↦ nobody (ap (λ (z : Domain Text). in_place z.fds fd) new)
  | inr none ↦ nobody (ap (λ (z : Domain Text). in_place z.fds fd) none)
])
  where
    empty : (fd : ℕ) → in_place {A = Descriptor} [] fd ≡ None
    empty zero = refl
    empty (suc fd) = refl

    nobody : in_place (domain (new_state slots) d).fds fd ≡ in_place {A = Descriptor} [] fd → ⊥
    nobody same = let none = empty fd in cc (same, none, is)
