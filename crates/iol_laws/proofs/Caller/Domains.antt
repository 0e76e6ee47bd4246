-- The effect of calls that create and end domains, and of calls on pools, for their caller.
use Rattle.std.proofs.Common.{◌≡◌, ◌≢◌, ℕ, ◌+◌, ◌-◌, ◌==◌, List, [], ◌∷◌, ◌++◌, length, ap, ◌∙◌, refl, sym, subst}
use Rattle.std.proofs.Common.{arith, Option, Some, None, true, false, Bool}
use Rattle.std.specs.Prelude.{fold, nat_le, not, ◌&&◌, ◌||◌, if◌then◌else◌, MatchOption}
use Rattle.std.specs.List.{list_any}
use Rattle.std.proofs.lemmas.Bool.Decides.{nat_tests}
use Rattle.std.proofs.lemmas.Grind.{common_steps}
use Rattle.std.proofs.lemmas.List.{set-get_or}
use Rattle.std.proofs.lemmas.List.Folds.{list_any-append}
use Rattle.iol_core.specs.Text.{Text}
use Rattle.iol_core.specs.NumberedLists.{numbered_or, with_numbered, is_numbered}
use Rattle.iol_core.specs.State.{State, Domain, Pipe, Pool, domain, new_domain, no_domain, no_pool, is_live, pool}
use Rattle.iol_core.specs.State.{is_pool, may_read, pipe_at, conn_at, with_domain}
use Rattle.iol_core.specs.Meaning.{first, ◌when◌, Never, WantOfMemory}
use Rattle.iol_core.specs.Run.{StepsTo}
use Rattle.iol_core.specs.Calls.Domains as domains
use Rattle.iol_core.specs.Calls.Pools as pools
use Rattle.iol_core.specs.Calls.Pools.{admitting, distinct, has_place, with_name}
use Rattle.iol_core.specs.Calls.Descriptors as fds
use Rattle.iol_core.specs.declared.limits.TheConstants.{MAX_DOMAINS}
use Rattle.iol_core.specs.declared.refusals.Refusal.{Refusal}
use Rattle.iol_core.specs.declared.refusals.Refusal.TheVariants as refuse
use Rattle.iol_core.specs.declared.events.Call.TheVariants as call
use Rattle.iol_core.specs.declared.events.Event.TheVariants as event
use Rattle.iol_core.specs.declared.events.Reply.{Reply}
use Rattle.iol_core.specs.declared.events.Reply.TheVariants as reply
use Rattle.iol_core.proofs.Lookups.{domain-same}
use Rattle.iol_core.proofs.TestedLists.{passed, when-none, when-not}
use Rattle.iol_laws.specs.Order.{IsOrderly}
use Rattle.iol_laws.specs.Caller.{is_resource_failure}
use Rattle.iol_laws.specs.CallerDomains.{MakesDomain, Exits, MakesPool, ClosesPool, Admits, SetsPool}
use Rattle.iol_laws.proofs.Connections.{conns_same}
use Rattle.iol_laws.proofs.Domains.{domain-with_other, domain-with_same, domains-all_closed, live-first}
use Rattle.iol_laws.proofs.Order.Closes.{conn_ended, ended_remains, read_end_ended, read_end_shut, unread_ended}
use Rattle.iol_laws.proofs.Order.Closes.{write_end_ended, write_end_shut}
use Rattle.iol_laws.proofs.Frame.Pipes.{pipes_same}
use Rattle.iol_laws.proofs.Refusals.Rest.{past-live}
use Rattle.iol_laws.proofs.Tests.{both-true}
use Rattle.iol_laws.proofs.Places.{numbered-set}
use Rattle.iol_laws.proofs.Frame.Files.{pool-other}

-- the number of a domain or a pool in a reply
abbrev made_in : Reply → ℕ
made_in (reply.Domain n) = n
made_in (reply.Pool p) = p
made_in r = 0

-- there is no element under the number after the last
next-none : {A : Type 0} (xs : List A) (z : A) → numbered_or xs (length xs + 1) z ≡ z
next-none xs z = grind (arith, nat_tests, common_steps)

next-new : {A : Type 0} (xs : List A) (x z : A) → numbered_or (xs ++ x ∷ []) (length xs + 1) z ≡ x
next-new xs x z = grind (arith, nat_tests, common_steps)

next-other : {A : Type 0} (xs : List A) (x z : A) (n : ℕ) → length xs + 1 ≢ n
    → numbered_or (xs ++ x ∷ []) n z ≡ numbered_or xs n z
next-other xs x z n differ = grind (arith, nat_tests, common_steps, differ)

-- Domains.

domain-next : (s : State) → (domain s (length s.domains + 1) ≡ no_domain)
    × (domain (domains.domain_new s 0).after (length s.domains + 1) ≡ new_domain)
unfolding domain
domain-next s = (next-none s.domains no_domain, next-new s.domains new_domain no_domain)

domain-apart : (s : State) (by e : ℕ) → length s.domains + 1 ≢ e → domain (domains.domain_new s by).after e ≡ domain s e
unfolding domain
domain-apart s by e differ = next-other s.domains new_domain no_domain e differ

pub does_start : (s t : State) (d : ℕ) (r : Reply) → is_live s d ≡ true → StepsTo s (event.Call d call.DomainNew) r t
    → MakesDomain s r t
does_start s t d (reply.Domain n) live step =
    let n_is : n ≡ length s.domains + 1 = ap made_in step.1 in
    let next = domain-next s in
    record {
      new = ap (λ k. is_live s k) n_is ∙ ap (λ (x : Domain Text). x.live) next.0;
      empty = ap (λ k. domain t k) n_is ∙ (ap (λ u. domain u (length s.domains + 1)) step.2 ∙ next.1);
      others = λ e differ. ap (λ u. domain u e) step.2 ∙ domain-apart s d e (λ same. differ (n_is ∙ same));
    }
does_start s t d (reply.Refused x) live step = (
  by (nat_le MAX_DOMAINS (length s.domains)) x
      (subst (λ o. MatchOption o (WantOfMemory x) (λ y. x ≡ y)) (past-live s d _ live) step.0),
  step.1,
)
  where
    by : (b : Bool) (x : Refusal) → MatchOption (first ((refuse.TooMany when b) ∷ [])) (WantOfMemory x) (λ y. x ≡ y)
        → is_resource_failure (reply.Refused x) ≡ true
    by true x is = ap (λ z. is_resource_failure (reply.Refused z)) is
    by false refuse.Memory is = refl
    by false x is = absurd is
does_start s t d r live step = (let e = step.1 in absurd (cc))

-- a domain's entry that becomes empty changes no connection and no pipe
ended-conns : (s : State) (d c : ℕ) → conn_at (with_domain s d no_domain) c ≡ conn_at s c
unfolding with_domain
ended-conns s d c = conns_same s (with_domain s d no_domain) (λ k. false) refl c refl

ended-pipes : (s : State) (d p : ℕ) → pipe_at (with_domain s d no_domain) p ≡ pipe_at s p
unfolding with_domain
ended-pipes s d p = pipes_same s (with_domain s d no_domain) (λ k. false) refl p refl

pub does_exit : (s t : State) (d : ℕ) (r : Reply) → IsOrderly s → is_live s d ≡ true
    → StepsTo s (event.Call d call.Exit) r t → Exits s d r t
does_exit s t d reply.Done order live step =
    let list = (domain s d).fds in
    let mid : State = fold fds.closed_on s list in
    let same : (e : ℕ) → domain mid e ≡ domain s e = λ e. domain-same s mid e (domains-all_closed s list) in
    let conn : (c : ℕ) → conn_at t c ≡ conn_at mid c = λ c. ap (λ u. conn_at u c) step.2 ∙ ended-conns mid d c in
    let pipe : (p : ℕ) → pipe_at t p ≡ pipe_at mid p = λ p. ap (λ u. pipe_at u p) step.2 ∙ ended-pipes mid d p in
    record {
      nothing = ap (λ u. domain u d) step.2
          ∙ domain-with_same mid d no_domain (ap (λ (x : Domain Text). x.live) (same d) ∙ live);
      others = λ e differ. ap (λ u. domain u e) step.2 ∙ (domain-with_other mid d e no_domain differ ∙ same e);
      conns =
          λ fd c is. (let both = conn_ended s list fd c order.once is in
          (ap (λ k. k.closed) (conn c) ∙ both.0, ap (λ k. k.outgoing) (conn c) ∙ both.1));
      read_ends =
          λ fd p is. (let both = read_end_ended s list fd p is in
          (ap (λ k. k.reading) (pipe p) ∙ both.0, ap (λ k. k.queue) (pipe p) ∙ both.1));
      write_ends = λ fd p is. ap (λ k. k.writing) (pipe p) ∙ write_end_ended s list fd p is;
      unread =
          λ p nobody reads. (let both = unread_ended s list p nobody reads in
          (ap (λ k. k.reading) (pipe p) ∙ both.0, ap (λ k. k.queue) (pipe p) ∙ both.1));
      conns_remain = λ fd c is. conn c ∙ ended_remains s list fd c order.once is;
      closes_read_end =
          λ fd p is nobody. subst (λ (k : Pipe). (k.reading ≡ false) × (k.queue ≡ [])
          × (k.writing ≡ (pipe_at s p).writing)) (sym (pipe p)) (read_end_shut s list fd p is nobody);
      closes_write_end =
          λ fd p is nobody. subst (λ (k : Pipe). (k.writing ≡ false)
          × ((pipe_at s p).reading ≡ true → k ≡ record (pipe_at s p) { writing = false })) (sym (pipe p))
          (write_end_shut s list fd p is nobody);
    }
does_exit s t d (reply.Refused x) order live step =
    subst (λ o. MatchOption o (Never x) (λ y. x ≡ y)) (past-live s d [] live) step.0
does_exit s t d r order live step = (let e = step.1 in absurd (cc))

-- Pools.

-- a list to which a domain is added names this domain and those that it named before
with_name-names : (list : List ℕ) (d e : ℕ)
    → list_any (λ x. x == e) (with_name list d) ≡ (list_any (λ x. x == e) list || (d == e))
with_name-names list d e = one (list_any (λ x. x == d) list) refl
  where
    one : (b : Bool) → list_any (λ x. x == d) list ≡ b → list_any (λ x. x == e) (if b then list else list ++ d ∷ [])
        ≡ (list_any (λ x. x == e) list || (d == e))
    one false un = list_any-append (λ x. x == e) list (d ∷ []) ∙ grind (arith, common_steps)
    one true is = by (d == e) refl
      where
        by : (b : Bool) → (d == e) ≡ b → list_any (λ x. x == e) list ≡ (list_any (λ x. x == e) list || b)
        by false differ = grind (arith)
        by true same =
            (let k : d ≡ e = grind (arith, nat_tests, same) in let f =
            subst (λ n. list_any (λ x. x == n) list ≡ true) k is in grind (arith, f))

-- a list without its duplicates names the same domains
distinct-names : (list : List ℕ) (e : ℕ) → list_any (λ d. d == e) (distinct list) ≡ list_any (λ d. d == e) list
distinct-names list e = from [] list
  where
    from : (found list : List ℕ) → list_any (λ d. d == e) (fold (λ found d. with_name found d) found list)
        ≡ (list_any (λ d. d == e) found || list_any (λ d. d == e) list)
    from found [] = grind (arith, common_steps)
    from found (d ∷ list) =
        let r = from (with_name found d) list in
        let o = with_name-names found d e in
        r ∙ (ap (λ b. b || list_any (λ x. x == e) list) o ∙ grind (arith, common_steps))

pool-next : (s : State) (x : Pool) → pool (record s { pools = s.pools ++ x ∷ [] }) (length s.pools + 1) ≡ x
unfolding pool
pool-next s x = next-new s.pools x no_pool

pool-apart : (s : State) (x : Pool) (q : ℕ) → length s.pools + 1 ≢ q
    → pool (record s { pools = s.pools ++ x ∷ [] }) q ≡ pool s q
unfolding pool
pool-apart s x q differ = next-other s.pools x no_pool q differ

is_pool-next : {A : Type 0} (xs : List A) (x : A) → (is_numbered xs (length xs + 1) ≡ false)
    × (is_numbered (xs ++ x ∷ []) (length xs + 1) ≡ true)
is_pool-next xs x = (grind (arith, nat_tests, common_steps), grind (arith, nat_tests, common_steps))

pub does_make_pool : (s t : State) (d chunks : ℕ) (list : List ℕ) (r : Reply)
    → StepsTo s (event.Call d (call.PoolCreate chunks list)) r t → MakesPool s list r t
does_make_pool s t d chunks list (reply.Pool p) step =
    let x : Pool = record { domains = distinct list; closed = false } in
    let p_is : p ≡ length s.pools + 1 = ap made_in step.1 in
    let numbers = is_pool-next s.pools x in
    let new : pool t p ≡ x = ap (λ n. pool t n) p_is ∙ (ap (λ u. pool u (length s.pools + 1)) step.2 ∙ pool-next s x) in
    record {
      new = ap (λ n. is_pool s n) p_is ∙ numbers.0;
      there = ap (λ n. is_pool t n) p_is ∙ (ap (λ u. is_pool u (length s.pools + 1)) step.2 ∙ numbers.1);
      open_yet = ap (λ (y : Pool). y.closed) new;
      may = λ e. ap (λ (y : Pool). list_any (λ f. f == e) y.domains) new ∙ distinct-names list e;
      others = λ q differ. ap (λ u. pool u q) step.2 ∙ pool-apart s x q (λ same. differ (p_is ∙ same));
    }
does_make_pool s t d chunks list (reply.Refused x) step = step.1
does_make_pool s t d chunks list r step = (let e = step.1 in absurd (cc))

pool-shut : (s : State) (p : ℕ) (x : Pool) → is_pool s p ≡ true
    → pool (record s { pools = with_numbered s.pools p x }) p ≡ x
unfolding pool
pool-shut s p x is = numbered-set s.pools p x no_pool is

pub does_close_pool : (s t : State) (d p : ℕ) (r : Reply) → StepsTo s (event.Call d (call.PoolClose p)) r t
    → ClosesPool s d p r t
does_close_pool s t d p reply.Done step =
    let refusals = (pools.pool_close s d p).refusals in
    let x : Pool = record (pool s p) { closed = true } in
    record {
      was_open = when-none (refuse.PoolClosed p) (pool s p).closed (passed refusals 3 step.0);
      may = when-not (refuse.Denied p) (may_read s d p) (passed refusals 2 step.0);
      closed = ap (λ u. pool u p) step.2
          ∙ pool-shut s p x (when-not refuse.NoPool (is_pool s p) (passed refusals 1 step.0));
      others = λ q differ. ap (λ u. pool u q) step.2 ∙ pool-other s p q x differ;
    }
does_close_pool s t d p (reply.Refused x) step = step.1
does_close_pool s t d p r step = (let e = step.1 in absurd (cc))

numbered-same : {A : Type 0} (xs : List A) (n : ℕ) (z : A) → with_numbered xs n (numbered_or xs n z) ≡ xs
numbered-same xs n z = let e = set-get_or xs (n - 1) z in grind (arith, nat_tests, common_steps, e)

-- Memory is not among these refusals
never_memory : (a b c d e : Bool) (p : ℕ)
    → first ((refuse.NoDomain when not a) ∷ (refuse.NoPool when not b) ∷ (refuse.TooMany when not c)
    ∷ (refuse.Denied p when not d) ∷ (refuse.PoolClosed p when e) ∷ []) ≡ Some refuse.Memory → ⊥
never_memory false b c d e p is = cc
never_memory true false c d e p is = cc
never_memory true true false d e p is = cc
never_memory true true true false e p is = cc
never_memory true true true true true p is = cc
never_memory true true true true false p is = cc

-- admitting a domain that may already read the pool changes nothing
admitted-again : (s : State) (p e : ℕ) → may_read s e p ≡ true
    → record s { pools = with_numbered s.pools p (admitting (pool s p) e) } ≡ s
unfolding pool
admitted-again s p e named =
    let x : Pool = pool s p in
    ap
    (λ (b : Bool). record s {
      pools =
          with_numbered s.pools p (record x { domains = if b then x.domains else x.domains ++ e ∷ [] });
    }) named
    ∙ ap (λ (ps : List Pool). record s { pools = ps }) (numbered-same s.pools p no_pool)

pub does_admit : (s t : State) (d p e : ℕ) (r : Reply) → StepsTo s (event.Call d (call.PoolAdmit p e)) r t
    → Admits s d p e r t
does_admit s t d p e reply.Done step =
    let refusals = (pools.pool_admit s d p e).refusals in
    let x : Pool = admitting (pool s p) e in
    let is : pool t p ≡ x = ap (λ u. pool u p) step.2
    ∙ pool-shut s p x (when-not refuse.NoPool (is_pool s p) (passed refusals 1 step.0)) in
    let open_yet = when-none (refuse.PoolClosed p) (pool s p).closed (passed refusals 4 step.0) in
    record {
      may_admit = when-not (refuse.Denied p) (may_read s d p) (passed refusals 3 step.0);
      open_yet = open_yet;
      lives =
          (both-true (is_live s d) (is_live s e)
          (when-not refuse.NoDomain (is_live s d && is_live s e) (passed refusals 0 step.0))).1;
      may = λ f. ap (λ (y : Pool). list_any (λ n. n == f) y.domains) is ∙ with_name-names (pool s p).domains e f;
      closed = ap (λ (y : Pool). y.closed) is ∙ open_yet;
      others = λ q differ. ap (λ u. pool u q) step.2 ∙ pool-other s p q x differ;
      rest = subst (λ (u : State). u ≡ record s { pools = u.pools }) (sym step.2) refl;
      again = λ named. step.2 ∙ admitted-again s p e named;
    }
does_admit s t d p e (reply.Refused x) step = (
  λ is. wants (first (pools.pool_admit s d p e).refusals) refl
      (subst (λ (y : Refusal). MatchOption (first (pools.pool_admit s d p e).refusals) (Never y) (λ z. y ≡ z)) is
      step.0),
  step.1,
)
  where
    wants : (o : Option Refusal) → first (pools.pool_admit s d p e).refusals ≡ o
        → MatchOption o (Never refuse.Memory) (λ z. refuse.Memory ≡ z) → ⊥
    wants None is never = never
    wants (Some y) is same = never_memory (is_live s d && is_live s e) (is_pool s p) (has_place (pool s p).domains e)
        (may_read s d p) (pool s p).closed p (is ∙ ap Some (sym same))
does_admit s t d p e r step = (let e = step.1 in absurd (cc))

pub does_set_pool : (s t : State) (d p : ℕ) (r : Reply) → StepsTo s (event.Call d (call.SetPool p)) r t
    → SetsPool s d p r t
does_set_pool s t d p reply.Done step =
    let refusals = (pools.set_pool s d p).refusals in
    record {
      default_is = ap (λ u. (domain u d).default) step.2
          ∙ ap (λ (x : Domain Text). x.default)
          (domain-with_same s d (record (domain s d) { default = Some p }) (live-first s d _ step.0));
      may = when-not (refuse.Denied p) (may_read s d p) (passed refusals 2 step.0);
      open_yet = when-none (refuse.PoolClosed p) (pool s p).closed (passed refusals 3 step.0);
    }
does_set_pool s t d p (reply.Refused x) step = step.1
does_set_pool s t d p r step = (let e = step.1 in absurd (cc))
