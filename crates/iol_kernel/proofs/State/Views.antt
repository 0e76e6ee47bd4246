-- The tables of the machine that those of a kernel represent, one by one.
use Rattle.std.proofs.Common.{inl, inr, ◌≡◌, ℕ, suc, ◌+◌, ◌-◌, List, [], ◌∷◌, ◌++◌, length, map, ap, ◌∙◌, refl, sym}
use Rattle.std.proofs.Common.{arith, Option, Some, None, true, false}
use Rattle.std.specs.List.{list_any}
use Rattle.std.specs.Prelude.{◌==◌, slice_set, unwrap_or, if◌then◌else◌, option_map, ◌||◌, nat_lt, Bool}
use Rattle.std.specs.List.{sum_by}
use Rattle.std.proofs.Math.ListN.{get_or-map}
use Rattle.std.proofs.lemmas.List.{map-set, map-append}
use Rattle.std.proofs.lemmas.List.Sums.{sum_by-cons}
use Rattle.std.proofs.lemmas.Bool.{cases_lt, cases_eq}
use Rattle.std.proofs.lemmas.Bool.Decides.{nat_tests}
use Rattle.iol_core.specs.Text.{Text}
use Rattle.iol_core.specs.NumberedLists.{lookup, without, numbered_or, with_numbered, in_place, lowest, placed, taken}
use Rattle.iol_core.specs.NumberedLists.{is_numbered}
use Rattle.iol_core.specs.State as machine
use Rattle.iol_core.specs.State.{Domain, new_domain, no_domain}
use Rattle.iol_core.specs.Calls.Aggregates as aggs
use Rattle.iol_core.specs.Calls.Descriptors as fds
use Rattle.iol_core.specs.Calls.Pools as pools
use Rattle.iol_core.specs.declared.descriptors.Descriptor.{Descriptor}
use Rattle.iol_core.specs.declared.limits.TheConstants.{MAX_AGGREGATES, LAST_AGGREGATE}
use Rattle.iol_desc.specs.Tables.{domain_in, with_domain_in, agg_in, with_agg_in, without_agg_in, live_aggs_in}
use Rattle.iol_desc.specs.Tables.{too_many_in, with_fds_in}
use Rattle.iol_pool.specs.Pools.{Pool, no_pool, pool_in, with_admitted, with_closed}
use Rattle.iol_core.specs.Calls.Pools.{admitting, with_name}
use Rattle.iol_hold.specs.Moves.{pool_meant}
use Rattle.iol_desc.proofs.Rows.{length-domains}
use Rattle.iol_sock.specs.Connections.{Conn, conn_view}
use Rattle.iol_hold.specs.declared.slices.Slice.{Slice}
use Rattle.iol_kernel.specs.Readings.{Reading, read}
use Rattle.iol_kernel.specs.Views.{domain_view, Pipe, Objects, pipe_in, pipe_view, state_view}

pub numbered_or-map : {A B : Type 0} (f : A → B) (xs : List A) (n : ℕ) (z : A)
    → numbered_or (map f xs) n (f z) ≡ f (numbered_or xs n z)
numbered_or-map f xs n z = let e = get_or-map f xs (n - 1) z in grind (arith, nat_tests, e)

with_numbered-map : {A B : Type 0} (f : A → B) (xs : List A) (n : ℕ) (x : A)
    → with_numbered (map f xs) n (f x) ≡ map f (with_numbered xs n x)
with_numbered-map f xs n x = let e = map-set f xs (n - 1) x in grind (arith, nat_tests, e)

pub lookup-map : {A B : Type 0} (g : A → B) (es : List (ℕ × A)) (n : ℕ)
    → lookup (map (λ e. (e.0, g e.1)) es) n ≡ option_map g (lookup es n)
lookup-map g [] n = refl
lookup-map g (e ∷ es) n = let r = lookup-map g es n in
    elim (cases_eq e.0 n) [ inl k ↦ grind (arith, nat_tests, k) | inr k ↦ grind (arith, nat_tests, k, r) ]

pub length-map' : {A B : Type 0} (f : A → B) (xs : List A) → length (map f xs) ≡ length xs
length-map' f [] = refl
length-map' f (x ∷ xs) = ap suc (length-map' f xs)

live_aggs-map : {A : Type 0} (g : A → Text) (ds : List (Domain A))
    → sum_by (λ (d : Domain Text). length d.aggs) (map (domain_view g) ds) ≡ live_aggs_in ds
live_aggs-map g [] = refl
live_aggs-map {A} g (d ∷ ds) =
    let r = live_aggs-map g ds in
    let s = sum_by-cons (λ (d : Domain Text). length d.aggs) (domain_view g d) (map (domain_view g) ds) in
    let t = sum_by-cons (λ (d : Domain A). length d.aggs) d ds in
    let l = length-map' {B = ℕ × Text} (λ (e : ℕ × A). (e.0, g e.1)) d.aggs in
    omega (arith, r, s, t, l)

pub domain-view : (f : Reading) (ds : List (Domain (List Slice))) (ps : List Pool) (qs : Objects (List Slice)) (d : ℕ)
    → machine.domain (state_view f ds ps qs) d ≡ domain_view (read f) (domain_in ds d)
unfolding state_view machine.domain domain_in
domain-view f ds ps qs d = numbered_or-map (domain_view (read f)) ds d (no_domain {A = List Slice})

pub pool-view : (f : Reading) (ds : List (Domain (List Slice))) (ps : List Pool) (qs : Objects (List Slice)) (p : ℕ)
    → machine.pool (state_view f ds ps qs) p ≡ pool_meant (pool_in ps p)
unfolding state_view machine.pool pool_in
pool-view f ds ps qs p = numbered_or-map pool_meant ps p no_pool

pub is_pool-view : (f : Reading) (ds : List (Domain (List Slice))) (ps : List Pool) (qs : Objects (List Slice)) (p : ℕ)
    → machine.is_pool (state_view f ds ps qs) p ≡ is_numbered ps p
unfolding state_view
is_pool-view f ds ps qs p = rw (length-map' pool_meant ps) refl

pub aggregate-view : (f : Reading) (ds : List (Domain (List Slice))) (ps : List Pool) (qs : Objects (List Slice))
    (d a : ℕ) → machine.aggregate (state_view f ds ps qs) d a ≡ option_map (read f) (agg_in ds d a)
aggregate-view f ds ps qs d a = ap (λ (x : Domain Text). lookup x.aggs a) (domain-view f ds ps qs d)
    ∙ lookup-map (read f) (domain_in ds d).aggs a

pub live_aggs-view : (f : Reading) (ds : List (Domain (List Slice))) (ps : List Pool) (qs : Objects (List Slice))
    → machine.live_aggs (state_view f ds ps qs) ≡ live_aggs_in ds
unfolding state_view
live_aggs-view f ds ps qs = live_aggs-map (read f) ds

pub too_many-view : (f : Reading) (ds : List (Domain (List Slice))) (ps : List Pool) (qs : Objects (List Slice))
    (d made given : ℕ) → aggs.too_many_aggs (state_view f ds ps qs) d made given ≡ too_many_in ds d made given
too_many-view f ds ps qs d made given =
    ap (λ n. nat_lt (MAX_AGGREGATES + given) (n + made)
    || nat_lt (LAST_AGGREGATE + 1) ((machine.domain (state_view f ds ps qs) d).next_agg + made))
    (live_aggs-view f ds ps qs)
    ∙ ap (λ (x : Domain Text). nat_lt (MAX_AGGREGATES + given) (live_aggs_in ds + made)
    || nat_lt (LAST_AGGREGATE + 1) (x.next_agg + made)) (domain-view f ds ps qs d)

pub text-view : (f : Reading) (ds : List (Domain (List Slice))) (ps : List Pool) (qs : Objects (List Slice)) (d a : ℕ)
    (x : (List Slice)) → Some x ≡ agg_in ds d a → machine.text (state_view f ds ps qs) d a ≡ (read f) x
text-view f ds ps qs d a x found =
    ap (λ (o : Option Text). unwrap_or o []) (aggregate-view f ds ps qs d a ∙ ap (option_map (read f)) (sym found))

-- a table changes

pub with_domain-view : (f : Reading) (ds : List (Domain (List Slice))) (ps : List Pool) (qs : Objects (List Slice))
    (d : ℕ) (x : Domain (List Slice))
    → state_view f (with_domain_in ds d x) ps qs ≡ machine.with_domain (state_view f ds ps qs) d
    (domain_view (read f) x)
unfolding state_view machine.with_domain with_domain_in
with_domain-view f ds ps qs d x =
    ap (λ (xs : List (Domain Text)). record (state_view f ds ps qs) { domains = xs })
    (sym (with_numbered-map (domain_view (read f)) ds d x))

pub with_agg-view : (f : Reading) (ds : List (Domain (List Slice))) (ps : List Pool) (qs : Objects (List Slice)) (d : ℕ)
    (a : (List Slice)) → state_view f (with_agg_in ds d a) ps qs ≡ aggs.with_agg (state_view f ds ps qs) d ((read f) a)
with_agg-view f ds ps qs d a =
    let x : Domain (List Slice) = domain_in ds d in
    let added : Domain (List Slice) = record x { aggs = x.aggs ++ (x.next_agg, a) ∷ []; next_agg = x.next_agg + 1 } in
    let e = map-append (λ (e : ℕ × (List Slice)). (e.0, (read f) e.1)) x.aggs ((x.next_agg, a) ∷ []) in
    with_domain-view f ds ps qs d added
    ∙ ap (λ (xs : List (ℕ × Text)). machine.with_domain (state_view f ds ps qs) d
    (record (domain_view (read f) x) { aggs = xs; next_agg = x.next_agg + 1 })) e
    ∙ ap
    (λ (y : Domain Text). machine.with_domain (state_view f ds ps qs) d
    (record y { aggs = y.aggs ++ (y.next_agg, (read f) a) ∷ []; next_agg = y.next_agg + 1 }))
    (sym (domain-view f ds ps qs d))

pub without-map : {A B : Type 0} (g : A → B) (es : List (ℕ × A)) (n : ℕ)
    → map (λ e. (e.0, g e.1)) (without es n) ≡ without (map (λ e. (e.0, g e.1)) es) n
without-map g [] n = refl
without-map {A} {B} g (e ∷ es) n = let r = without-map g es n in
    elim (cases_eq e.0 n) [ inl k ↦ grind (arith, nat_tests, k) | inr k ↦ grind (arith, nat_tests, k, r) ]

pub without_agg-view : (f : Reading) (ds : List (Domain (List Slice))) (ps : List Pool) (qs : Objects (List Slice))
    (d a : ℕ) → state_view f (without_agg_in ds d a) ps qs ≡ aggs.without_agg (state_view f ds ps qs) d a
without_agg-view f ds ps qs d a =
    let x : Domain (List Slice) = domain_in ds d in
    with_domain-view f ds ps qs d (record x { aggs = without x.aggs a })
    ∙ ap (λ (xs : List (ℕ × Text)). machine.with_domain (state_view f ds ps qs) d
    (record (domain_view (read f) x) { aggs = xs })) (without-map (read f) x.aggs a)
    ∙ ap (λ (y : Domain Text). machine.with_domain (state_view f ds ps qs) d (record y { aggs = without y.aggs a }))
    (sym (domain-view f ds ps qs d))

-- pools that are the same for the machine
pub pools-view : (f : Reading) (ds : List (Domain (List Slice))) (ps rs : List Pool) (qs : Objects (List Slice))
    → map pool_meant rs ≡ map pool_meant ps → state_view f ds rs qs ≡ state_view f ds ps qs
unfolding state_view
pools-view f ds ps rs qs e = ap (λ (xs : List machine.Pool). record (state_view f ds ps qs) { pools = xs }) e

-- one pool more, one that is closed, or one whose list names a domain more, as the machine sees it
pub added_pool-view : (f : Reading) (ds : List (Domain (List Slice))) (ps rs : List Pool) (qs : Objects (List Slice))
    (x : machine.Pool) → map pool_meant rs ≡ map pool_meant ps ++ x ∷ []
    → state_view f ds rs qs ≡ record (state_view f ds ps qs) { pools = (state_view f ds ps qs).pools ++ x ∷ [] }
unfolding state_view
added_pool-view f ds ps rs qs x e = ap (λ (xs : List machine.Pool). record (state_view f ds ps qs) { pools = xs }) e

pub closed-view : (f : Reading) (ds : List (Domain (List Slice))) (ps rs : List Pool) (qs : Objects (List Slice))
    (p : ℕ) → map pool_meant rs ≡ map pool_meant (with_closed ps p)
    → state_view f ds rs qs ≡ record (state_view f ds ps qs) {
      pools =
          with_numbered (state_view f ds ps qs).pools p (record (machine.pool (state_view f ds ps qs) p) {
            closed =
                true;
          });
    }
unfolding state_view with_closed
closed-view f ds ps rs qs p e =
    ap (λ (xs : List machine.Pool). record (state_view f ds ps qs) { pools = xs }) (e
    ∙ sym (with_numbered-map pool_meant ps p (record (pool_in ps p) { closed = true })))
    ∙ ap (λ (x : machine.Pool). record (state_view f ds ps qs) {
      pools =
          with_numbered (map pool_meant ps) p (record x { closed = true });
    }) (sym (pool-view f ds ps qs p))

pub admitted-view : (f : Reading) (ds : List (Domain (List Slice))) (ps : List Pool) (qs : Objects (List Slice))
    (p d : ℕ) → state_view f ds (with_admitted ps p d) qs ≡ record (state_view f ds ps qs) {
      pools =
          with_numbered (state_view f ds ps qs).pools p (admitting (machine.pool (state_view f ds ps qs) p) d);
    }
unfolding state_view with_admitted
admitted-view f ds ps qs p d =
    ap (λ (xs : List machine.Pool). record (state_view f ds ps qs) { pools = xs })
    (sym
    (with_numbered-map pool_meant ps p (record (pool_in ps p) { domains = with_name (pool_in ps p).domains d })))
    ∙ ap (λ (x : machine.Pool). record (state_view f ds ps qs) {
      pools =
          with_numbered (map pool_meant ps) p (admitting x d);
    }) (sym (pool-view f ds ps qs p))

pub with_fds-view : (f : Reading) (ds : List (Domain (List Slice))) (ps : List Pool) (qs : Objects (List Slice)) (d : ℕ)
    (xs : List (Option Descriptor))
    → state_view f (with_fds_in ds d xs) ps qs ≡ fds.with_fds (state_view f ds ps qs) d xs
with_fds-view f ds ps qs d xs =
    with_domain-view f ds ps qs d (record (domain_in ds d) { fds = xs })
    ∙ ap (λ (y : Domain Text). machine.with_domain (state_view f ds ps qs) d (record y { fds = xs }))
    (sym (domain-view f ds ps qs d))

pub add_domain-view : (f : Reading) (ds : List (Domain (List Slice))) (ps : List Pool) (qs : Objects (List Slice))
    → state_view f (ds ++ new_domain ∷ []) ps qs ≡ record (state_view f ds ps qs) {
      domains =
          (state_view f ds ps qs).domains ++ new_domain ∷ [];
    }
unfolding state_view
add_domain-view f ds ps qs =
    ap (λ (xs : List (Domain Text)). record (state_view f ds ps qs) { domains = xs })
    (map-append (domain_view (read f)) ds (new_domain {A = List Slice} ∷ []))

-- pipes

abbrev pub no_pipe : {A : Type 0} → A → Pipe A
no_pipe q = record { queue = q; reading = false; writing = false }

in_place-map : {A B : Type 0} (f : A → B) (xs : List (Option A)) (n : ℕ)
    → in_place (map (option_map f) xs) n ≡ option_map f (in_place xs n)
in_place-map {A} f xs n = let z : Option A = None in get_or-map (option_map f) xs n z

lowest-map : {A B : Type 0} (f : A → B) (xs : List (Option A)) → lowest (map (option_map f) xs) ≡ lowest xs
lowest-map f [] = refl
lowest-map f (None ∷ xs) = refl
lowest-map f (Some x ∷ xs) = omega (arith, lowest-map f xs)

taken-map : {A B : Type 0} (f : A → B) (xs : List (Option A)) → taken (map (option_map f) xs) ≡ taken xs
taken-map f [] = refl
taken-map f (None ∷ xs) = taken-map f xs
taken-map f (Some x ∷ xs) = ap suc (taken-map f xs)

placed-map : {A B : Type 0} (f : A → B) (xs : List (Option A)) (n : ℕ) (x : A)
    → placed (map (option_map f) xs) n (f x) ≡ map (option_map f) (placed xs n x)
placed-map {A} f xs n x =
    let e = map-set (option_map f) xs n (Some x) in
    let l = length-map' (option_map f) xs in
    let p = map-append (option_map f) xs (Some x ∷ []) in
    elim (cases_lt n (length xs)) [
      | inl k ↦ grind (arith, nat_tests, e, l, k)
      | inr k ↦ grind (arith, nat_tests, p, l, k)
    ]

pub lowest-view : (f : Reading) (ds : List (Domain (List Slice))) (ps : List Pool) (qs : Objects (List Slice))
    → lowest (state_view f ds ps qs).pipes ≡ lowest qs.pipes
unfolding state_view
lowest-view f ds ps qs = lowest-map (pipe_view (read f)) qs.pipes

pub taken-view : (f : Reading) (ds : List (Domain (List Slice))) (ps : List Pool) (qs : Objects (List Slice))
    → taken (state_view f ds ps qs).pipes ≡ taken qs.pipes
unfolding state_view
taken-view f ds ps qs = taken-map (pipe_view (read f)) qs.pipes

pub add_pipe-view : (f : Reading) (ds : List (Domain (List Slice))) (ps : List Pool) (qs : Objects (List Slice)) (n : ℕ)
    (p : Pipe (List Slice)) → state_view f ds ps (record qs { pipes = placed qs.pipes n p })
    ≡ record (state_view f ds ps qs) { pipes = placed (state_view f ds ps qs).pipes n (pipe_view (read f) p) }
unfolding state_view
add_pipe-view f ds ps qs n p =
    ap (λ (xs : List (Option machine.Pipe)). record (state_view f ds ps qs) { pipes = xs })
    (sym (placed-map (pipe_view (read f)) qs.pipes n p))

pub length_domains-view : (f : Reading) (ds : List (Domain (List Slice))) (ps : List Pool) (qs : Objects (List Slice))
    → length (state_view f ds ps qs).domains ≡ length ds
unfolding state_view
length_domains-view f ds ps qs = length-map' (domain_view (read f)) ds

pub length_pools-view : (f : Reading) (ds : List (Domain (List Slice))) (ps : List Pool) (qs : Objects (List Slice))
    → length (state_view f ds ps qs).pools ≡ length ps
unfolding state_view
length_pools-view f ds ps qs = length-map' pool_meant ps

pub pipe_at-view : (f : Reading) (ds : List (Domain (List Slice))) (ps : List Pool) (qs : Objects (List Slice))
    (z : (List Slice)) (p : ℕ) → (read f) z ≡ []
    → machine.pipe_at (state_view f ds ps qs) p ≡ pipe_view (read f) (pipe_in z qs.pipes p)
unfolding state_view machine.pipe_at
pipe_at-view f ds ps qs z p none =
    ap (λ o. unwrap_or o machine.no_pipe) (in_place-map (pipe_view (read f)) qs.pipes p) ∙ found (in_place qs.pipes p)
  where
    found : (o : Option (Pipe (List Slice))) → unwrap_or (option_map (pipe_view (read f)) o) machine.no_pipe
        ≡ pipe_view (read f) (unwrap_or o (no_pipe z))
    found None = ap (λ (t : Text). record machine.no_pipe { queue = t }) (sym none)
    found (Some x) = refl

-- connections

any-map : {A : Type 0} (g : A → Text) (cs : List (ℕ × Conn A)) (p : ℕ)
    → list_any (λ e. e.1.pool == p) cs ≡ list_any (λ e. e.1.pool == p)
    (map {B = ℕ × machine.Connection} (λ e. (e.0, conn_view g e.1)) cs)
any-map g [] p = refl
any-map g (c ∷ cs) p = ap (λ b. (c.1.pool == p) || b) (any-map g cs p)

pub busy-view : (f : Reading) (ds : List (Domain (List Slice))) (ps : List Pool) (qs : Objects (List Slice)) (p : ℕ)
    → (list_any (λ x. x.pool == p) qs.files || list_any (λ e. e.1.pool == p) qs.conns)
    ≡ pools.is_busy (state_view f ds ps qs) p
unfolding state_view
busy-view f ds ps qs p = ap (λ b. list_any (λ x. x.pool == p) qs.files || b) (any-map (read f) qs.conns p)

-- a pipe stays if one of its ends is open
kept_or_gone : {A : Type 0} (g : A → Text) (x : Pipe A) (k : Bool)
    → option_map (pipe_view g) (if k then Some x else None) ≡ (if k then Some (pipe_view g x) else None)
kept_or_gone g x true = refl
kept_or_gone g x false = refl

pub with_pipe_in-view : (f : Reading) (ds : List (Domain (List Slice))) (ps : List Pool) (qs : Objects (List Slice))
    (p : ℕ) (x : Pipe (List Slice))
    → state_view f ds ps (record qs { pipes = slice_set qs.pipes p (if x.reading || x.writing then Some x else None) })
    ≡ machine.with_pipe (state_view f ds ps qs) p (pipe_view (read f) x)
unfolding state_view machine.with_pipe
with_pipe_in-view f ds ps qs p x =
    ap (λ (xs : List (Option machine.Pipe)). record (state_view f ds ps qs) { pipes = xs })
    (map-set (option_map (pipe_view (read f))) qs.pipes p (if x.reading || x.writing then Some x else None)
    ∙ ap (λ o. slice_set (map (option_map (pipe_view (read f))) qs.pipes) p o)
    (kept_or_gone (read f) x (x.reading || x.writing)))

pub with_pipe-view : (f : Reading) (ds : List (Domain (List Slice))) (ps : List Pool) (qs : Objects (List Slice))
    (p : ℕ) (x : Pipe (List Slice)) → (x.reading || x.writing) ≡ true
    → state_view f ds ps (record qs { pipes = slice_set qs.pipes p (Some x) })
    ≡ machine.with_pipe (state_view f ds ps qs) p (pipe_view (read f) x)
with_pipe-view f ds ps qs p x any =
    ap (λ b. state_view f ds ps (record qs { pipes = slice_set qs.pipes p (if b then Some x else None) })) (sym any)
    ∙ with_pipe_in-view f ds ps qs p x

pub ruleset domain_rules = (domain-view, aggregate-view, too_many-view, text-view)

pub ruleset pool_rules = (pool-view, is_pool-view)

pub ruleset busy_rules = (busy-view)

pub ruleset count_rules = (length_domains-view, length-domains, length_pools-view, taken-view)
