-- The invariant of a system, and the facts that a step of the store leaves unchanged.
use Rattle.std.proofs.Common.{◌≡◌, ℕ, zero, suc, ◌+◌, ◌-◌, ◌<◌, ◌≤◌, List, [], ◌∷◌, ◌++◌, length, map, ap, ◌∙◌, refl}
use Rattle.std.specs.List.{AllByRecursion}
use Rattle.std.proofs.Common.{sym, subst, arith, Option, Some, None, inl, inr, get_or, true, length-append}
use Rattle.std.specs.Prelude.{option_map, slice_set, sum_by}
use Rattle.std.proofs.lemmas.Bool.{cases_lt, cases_eq}
use Rattle.std.proofs.lemmas.Bool.Decides.{nat_tests}
use Rattle.std.proofs.lemmas.List.Sums.{sum_by-cons}
use Rattle.iol_core.specs.Text.{Text}
use Rattle.iol_core.specs.NumberedLists.{lookup, without, numbered_or, with_numbered, placed}
use Rattle.iol_core.specs.State as machine
use Rattle.iol_core.specs.State.{Domain, no_domain}
use Rattle.iol_core.specs.declared.descriptors.Descriptor.{Descriptor}
use Rattle.iol_core.specs.declared.numbers.BufId.{BufId}
use Rattle.iol_pool.specs.Pools.{Pool}
use Rattle.iol_hold.specs.StoreState.{Stored, count_of}
use Rattle.iol_hold.specs.Moves.{Stays, Covers}
use Rattle.iol_hold.specs.Places.{byte_len}
use Rattle.iol_hold.specs.Texts.{text_of, bufs_of, AllReadable}
use Rattle.iol_hold.specs.declared.slices.Slice.{Slice}
use Rattle.iol_hold.proofs.ReadSlices.{readable_stays, text_stays}
use Rattle.iol_desc.specs.Tables.{domain_in, with_domain_in, agg_in, with_agg_in, without_agg_in, live_aggs_in}
use Rattle.iol_desc.specs.Tables.{with_fds_in}
use Rattle.iol_sock.specs.Connections.{Conn, conn_view}
use Rattle.iol_kernel.specs.Views.{domain_view, Pipe, Objects, pipe_view, state_view}
use Rattle.iol_kernel.specs.HoldCounts.{uses, domain_uses, pipe_uses, conn_uses, all_uses, IsCounted}
use Rattle.iol_kernel.specs.EndCounts.{IsOpenOnce}
use Rattle.iol_cache.specs.CacheState as cached
use Rattle.iol_kernel.specs.KernelState.{KernelState, objects_of, IsDomainReadable, IsPipeReadable}
use Rattle.iol_kernel.specs.KernelState.{IsConnReadable, AreReadable, IsOpenEnd, IsSound, IsShort, AreLimited}
use Rattle.iol_kernel.specs.KernelState.{IsLimited}
use Rattle.iol_kernel.specs.Readings.{bytes_over, slots_read}
use Rattle.iol_kernel.proofs.State.Slots.{file_stays, slots_stay}
use Rattle.iol_kernel.proofs.State.Uses.{uses-same, sum-with_domain, length-without}
use Rattle.iol_core.specs.declared.limits.TheConstants.{MAX_AGGREGATES, MAX_AGGREGATE_BYTES, MAX_PIPES}

pub each-push : {A : Type 0} (P : A → Type 0) (xs : List A) (x : A) → AllByRecursion P xs → P x
    → AllByRecursion P (xs ++ x ∷ [])
each-push P [] x e p = (p, tt)
each-push P (y ∷ xs) x e p = (e.0, each-push P xs x e.1 p)

pub each-set : {A : Type 0} (P : A → Type 0) (xs : List A) (n : ℕ) (x : A) → AllByRecursion P xs → P x
    → AllByRecursion P (slice_set xs n x)
each-set P [] n x e p = tt
each-set P (y ∷ xs) zero x e p = (p, e.1)
each-set P (y ∷ xs) (suc n) x e p = (e.0, each-set P xs n x e.1 p)

pub each-get : {A : Type 0} (P : A → Type 0) (xs : List A) (n : ℕ) (z : A) → AllByRecursion P xs → P z
    → P (get_or xs n z)
each-get P [] n z e p = p
each-get P (y ∷ xs) zero z e p = e.0
each-get P (y ∷ xs) (suc n) z e p = each-get P xs n z e.1 p

pub each-weaker : {A : Type 0} (P Q : A → Type 0) (xs : List A) → ((x : A) → P x → Q x) → AllByRecursion P xs
    → AllByRecursion Q xs
each-weaker P Q [] f e = tt
each-weaker P Q (x ∷ xs) f e = (f x e.0, each-weaker P Q xs f e.1)

each-lookup : {A : Type 0} (P : A → Type 0) (es : List (ℕ × A)) (n : ℕ) (x : A) → AllByRecursion (λ e. P e.1) es
    → Some x ≡ lookup es n → P x
each-lookup P [] n x e is = absurd cc
each-lookup {A} P (y ∷ es) n x e is = elim (cases_eq y.0 n) [
  | inl k ↦ subst P (sym (same y.1 (let i : Some x ≡ Some y.1 = is ∙ grind (arith, nat_tests, k) in i))) e.0
  | inr k ↦ each-lookup P es n x e.1 (is ∙ grind (arith, nat_tests, k))
]
  where
    same : (y : A) → Some x ≡ Some y → x ≡ y
    same y i = cc

each-both : {A : Type 0} (P Q R : A → Type 0) (xs : List A) → ((x : A) → P x → Q x → R x) → AllByRecursion P xs
    → AllByRecursion Q xs
    → AllByRecursion R xs
each-both P Q R [] f e k = tt
each-both P Q R (x ∷ xs) f e k = (f x e.0 k.0, each-both P Q R xs f e.1 k.1)

map-kept : {A B : Type 0} (P Q : A → Type 0) (f g : A → B) (xs : List A) → ((x : A) → P x → Q x → f x ≡ g x)
    → AllByRecursion P xs
    → AllByRecursion Q xs → map f xs ≡ map g xs
map-kept P Q f g [] same e k = refl
map-kept P Q f g (x ∷ xs) same e k = ap (λ y. y ∷ map f xs) (same x e.0 k.0)
    ∙ ap (λ ys. g x ∷ ys) (map-kept P Q f g xs same e.1 k.1)

-- Counted slices are covered.

abbrev IsAggCovered : Stored → (ℕ × List Slice) → Type 0
IsAggCovered s e = Covers s (bufs_of e.1)

abbrev IsDomainCovered : Stored → Domain (List Slice) → Type 0
IsDomainCovered s d = AllByRecursion (IsAggCovered s) d.aggs

abbrev IsPipeCovered : Stored → Option (Pipe (List Slice)) → Type 0
IsPipeCovered s None = Unit {0}
IsPipeCovered s (Some p) = Covers s (bufs_of p.queue)

aggs_covered : (s : Stored) (es : List (ℕ × List Slice)) → ((b : BufId) → sum_by (λ e. uses b e.1) es ≤ count_of s b)
    → AllByRecursion (IsAggCovered s) es
aggs_covered s [] h = tt
aggs_covered s (e ∷ es) h = (
  record { each = λ b. (let c = sum_by-cons (λ (e : ℕ × List Slice). uses b e.1) e es in omega (arith, c, h b)) },
  aggs_covered s es (λ b. (let c = sum_by-cons (λ (e : ℕ × List Slice). uses b e.1) e es in omega (arith, c, h b))),
)

domains_covered : (s : Stored) (ds : List (Domain (List Slice)))
    → ((b : BufId) → sum_by (domain_uses b) ds ≤ count_of s b) → AllByRecursion (IsDomainCovered s) ds
domains_covered s [] h = tt
domains_covered s (d ∷ ds) h = (
  aggs_covered s d.aggs (λ b. (let c = sum_by-cons (domain_uses b) d ds in omega (arith, c, h b))),
  domains_covered s ds (λ b. (let c = sum_by-cons (domain_uses b) d ds in omega (arith, c, h b))),
)

pipes_covered : (s : Stored) (qs : List (Option (Pipe (List Slice))))
    → ((b : BufId) → sum_by (pipe_uses b) qs ≤ count_of s b) → AllByRecursion (IsPipeCovered s) qs
pipes_covered s [] h = tt
pipes_covered s (None ∷ qs) h =
    (tt, pipes_covered s qs (λ b. (let c = sum_by-cons (pipe_uses b) None qs in omega (arith, c, h b))))
pipes_covered s (Some x ∷ qs) h = (
  record { each = λ b. (let c = sum_by-cons (pipe_uses b) (Some x) qs in omega (arith, c, h b)) },
  pipes_covered s qs (λ b. (let c = sum_by-cons (pipe_uses b) (Some x) qs in omega (arith, c, h b))),
)

abbrev IsConnCovered : Stored → ℕ × Conn (List Slice) → Type 0
IsConnCovered s e = Covers s (bufs_of e.1.incoming) × Covers s (bufs_of e.1.outgoing)

conns_covered : (s : Stored) (cs : List (ℕ × Conn (List Slice)))
    → ((b : BufId) → sum_by (conn_uses b) cs ≤ count_of s b) → AllByRecursion (IsConnCovered s) cs
conns_covered s [] h = tt
conns_covered s (x ∷ cs) h = (
  (
    record { each = λ b. (let c = sum_by-cons (conn_uses b) x cs in omega (arith, c, h b)) },
    record { each = λ b. (let c = sum_by-cons (conn_uses b) x cs in omega (arith, c, h b)) },
  ),
  conns_covered s cs (λ b. (let c = sum_by-cons (conn_uses b) x cs in omega (arith, c, h b))),
)

-- The store makes a step, and all these slices are still held.

pub record AreHeld (s : Stored) (ds : List (Domain (List Slice))) (qs : Objects (List Slice)) : Type 0 where
  pub each : (b : BufId) → all_uses ds qs b ≤ count_of s b

pub counted_held : {s : Stored} {ds : List (Domain (List Slice))} {qs : Objects (List Slice)} → IsCounted s ds qs
    → AreHeld s ds qs
counted_held c = record { each = λ b. omega (arith, c.each b) }

module _ (old new : Stored) (m : Stays old new) (ds : List (Domain (List Slice))) (qs : Objects (List Slice))
    (held : AreHeld new ds qs) where
  domains_held : AllByRecursion (IsDomainCovered new) ds
  domains_held = domains_covered new ds (λ b. omega (arith, held.each b))

  pipes_held : AllByRecursion (IsPipeCovered new) qs.pipes
  pipes_held = pipes_covered new qs.pipes (λ b. omega (arith, held.each b))

  conns_held : AllByRecursion (IsConnCovered new) qs.conns
  conns_held = conns_covered new qs.conns (λ b. omega (arith, held.each b))

  domain_stays : (d : Domain (List Slice)) → IsDomainReadable old d → IsDomainCovered new d → IsDomainReadable new d
  domain_stays d e k =
      each-both (λ (e : ℕ × List Slice). AllReadable old e.1) (IsAggCovered new) (λ e. AllReadable new e.1) d.aggs
      (λ x r c. readable_stays x.1 m c r) e k

  pub domains_stay : AllByRecursion (IsDomainReadable old) ds → AllByRecursion (IsDomainReadable new) ds
  domains_stay e = each-both (IsDomainReadable old) (IsDomainCovered new) (IsDomainReadable new) ds domain_stays e
      domains_held

  pipe_stays : (p : Option (Pipe (List Slice))) → IsPipeReadable old p → IsPipeCovered new p → IsPipeReadable new p
  pipe_stays None e k = tt
  pipe_stays (Some p) e k = readable_stays p.queue m k e

  conn_stays : (x : ℕ × Conn (List Slice)) → IsConnReadable old x → IsConnCovered new x → IsConnReadable new x
  conn_stays x e k = (readable_stays x.1.incoming m k.0 e.0, readable_stays x.1.outgoing m k.1 e.1)

  pub files_held : Covers new (cached.held qs.cached)
  files_held = record { each = λ b. omega (arith, held.each b) }

  pub objects_stay : AreReadable old qs → AreReadable new qs
  objects_stay e = record {
    files = λ n. file_stays old new qs.cached n m files_held (e.files n);
    pipes = each-both (IsPipeReadable old) (IsPipeCovered new) (IsPipeReadable new) qs.pipes pipe_stays e.pipes
        pipes_held;
    conns = each-both (IsConnReadable old) (IsConnCovered new) (IsConnReadable new) qs.conns conn_stays e.conns
        conns_held;
  }

  domain_same : (d : Domain (List Slice)) → IsDomainReadable old d → IsDomainCovered new d
      → domain_view (text_of new) d ≡ domain_view (text_of old) d
  domain_same d e k =
      ap (λ (xs : List (ℕ × Text)). record (domain_view (text_of old) d) { aggs = xs })
      (map-kept {B = ℕ × Text} (λ (e : ℕ × List Slice). AllReadable old e.1) (IsAggCovered new)
      (λ e. (e.0, text_of new e.1)) (λ e. (e.0, text_of old e.1)) d.aggs
      (λ x r c. ap {B = ℕ × Text} (λ t. (x.0, t)) (text_stays x.1 m c r)) e k)

  pipe_same : (p : Option (Pipe (List Slice))) → IsPipeReadable old p → IsPipeCovered new p
      → option_map (pipe_view (text_of new)) p ≡ option_map (pipe_view (text_of old)) p
  pipe_same None e k = refl
  pipe_same (Some p) e k =
      ap (λ (t : Text). Some (record (pipe_view (text_of old) p) { queue = t })) (text_stays p.queue m k e)

  abbrev seen_conn : Stored → ℕ × Conn (List Slice) → ℕ × machine.Connection
  seen_conn s x = (x.0, conn_view (text_of s) x.1)

  conn_same : (x : ℕ × Conn (List Slice)) → IsConnReadable old x → IsConnCovered new x
      → seen_conn new x ≡ seen_conn old x
  conn_same x e k =
      ap {B = ℕ × machine.Connection} (λ (t : Text). (x.0, record (conn_view (text_of new) x.1) { incoming = t }))
      (text_stays x.1.incoming m k.0 e.0)
      ∙ ap {B = ℕ × machine.Connection} (λ (t : Text). (x.0, record (conn_view (text_of old) x.1) { outgoing = t }))
      (text_stays x.1.outgoing m k.1 e.1)

  -- so the machine's state is unchanged
  pub view-stays : (ps : List Pool) → AllByRecursion (IsDomainReadable old) ds → AreReadable old qs
      → (stored : List (List ℕ))
      → state_view (bytes_over stored new) ds ps qs ≡ state_view (bytes_over stored old) ds ps qs
  unfolding state_view
  view-stays ps e k stored =
      ap (λ (xs : List (Domain Text)). record (state_view (bytes_over stored new) ds ps qs) { domains = xs })
      (map-kept (IsDomainReadable old) (IsDomainCovered new) (domain_view (text_of new)) (domain_view (text_of old))
      ds domain_same e domains_held)
      ∙ ap (λ (xs : List (Option machine.Pipe)). record (state_view (bytes_over stored new) ds ps qs) {
        domains =
            map (domain_view (text_of old)) ds;
        pipes = xs;
      })
      (map-kept (IsPipeReadable old) (IsPipeCovered new) (option_map (pipe_view (text_of new)))
      (option_map (pipe_view (text_of old))) qs.pipes pipe_same k.pipes pipes_held)
      ∙ ap (λ (xs : List (ℕ × machine.Connection)). record (state_view (bytes_over stored old) ds ps qs) {
        slots =
            slots_read (bytes_over stored new) qs.cached;
        conns = xs;
      })
      (map-kept {B = ℕ × machine.Connection} (IsConnReadable old) (IsConnCovered new) (seen_conn new) (seen_conn old)
      qs.conns conn_same k.conns conns_held)
      ∙ ap (λ (xs : List (List ℕ)). record (state_view (bytes_over stored old) ds ps qs) { slots = xs })
      (slots_stay stored old new qs.cached m files_held k.files)

pub each-numbered : {A : Type 0} (P : A → Type 0) (xs : List A) (n : ℕ) (z : A) → AllByRecursion P xs → P z
    → P (numbered_or xs n z)
each-numbered P xs n z e p = elim (cases_eq n 0) [
  | inl k ↦ subst P (grind (arith, nat_tests, k)) p
  | inr k ↦ subst P (grind (arith, nat_tests, k)) (each-get P xs (n - 1) z e p)
]

pub each-with_numbered : {A : Type 0} (P : A → Type 0) (xs : List A) (n : ℕ) (x : A) → AllByRecursion P xs → P x
    → AllByRecursion P (with_numbered xs n x)
each-with_numbered P xs n x e p = elim (cases_eq n 0) [
  | inl k ↦ subst (λ (ys : List _). AllByRecursion P ys) (grind (arith, nat_tests, k)) e
  | inr k ↦ subst (λ (ys : List _). AllByRecursion P ys) (grind (arith, nat_tests, k)) (each-set P xs (n - 1) x e p)
]

pub each-placed : {A : Type 0} (P : Option A → Type 0) (xs : List (Option A)) (n : ℕ) (x : A) → AllByRecursion P xs
    → P (Some x)
    → AllByRecursion P (placed xs n x)
each-placed P xs n x e p = elim (cases_lt n (length xs)) [
  | inl k ↦ subst (λ (ys : List _). AllByRecursion P ys) (grind (arith, nat_tests, k)) (each-set P xs n (Some x) e p)
  | inr k ↦ subst (λ (ys : List _). AllByRecursion P ys) (grind (arith, nat_tests, k)) (each-push P xs (Some x) e p)
]

pub each-domain_in : (P : Domain (List Slice) → Type 0) (ds : List (Domain (List Slice))) (d : ℕ) → AllByRecursion P ds
    → P no_domain → P (domain_in ds d)
unfolding domain_in
each-domain_in P ds d e p = each-numbered P ds d no_domain e p

pub each-with_domain_in : (P : Domain (List Slice) → Type 0) (ds : List (Domain (List Slice))) (d : ℕ)
    (x : Domain (List Slice)) → AllByRecursion P ds → P x → AllByRecursion P (with_domain_in ds d x)
unfolding with_domain_in
each-with_domain_in P ds d x e p = each-with_numbered P ds d x e p

-- facts of a domain in a sound state

pub aggs_readable : (h : KernelState) (d : ℕ) → IsSound h → IsDomainReadable h.store (domain_in h.domains d)
aggs_readable h d sound = each-domain_in (IsDomainReadable h.store) h.domains d sound.domains tt

pub ends_open : (h : KernelState) (d : ℕ) → IsSound h
    → AllByRecursion (IsOpenEnd (objects_of h)) (domain_in h.domains d).fds
ends_open h d sound = each-domain_in (λ (x : Domain (List Slice)). AllByRecursion (IsOpenEnd (objects_of h)) x.fds)
    h.domains d
    sound.fds tt

pub aggs_small : (h : KernelState) (d : ℕ) → IsSound h
    → AllByRecursion (λ (e : ℕ × List Slice). byte_len e.1 ≤ MAX_AGGREGATE_BYTES) (domain_in h.domains d).aggs
aggs_small h d sound =
    each-domain_in (λ (y : Domain (List Slice)). AllByRecursion (λ e. byte_len e.1 ≤ MAX_AGGREGATE_BYTES) y.aggs)
    h.domains d
    sound.limits.aggs tt

pub agg_small : (h : KernelState) (d a : ℕ) (xs : List Slice) → IsSound h → Some xs ≡ agg_in h.domains d a
    → byte_len xs ≤ MAX_AGGREGATE_BYTES
agg_small h d a xs sound is =
    each-lookup (λ (ys : List Slice). byte_len ys ≤ MAX_AGGREGATE_BYTES) (domain_in h.domains d).aggs a xs
    (aggs_small h d sound) is

pub agg_readable : (h : KernelState) (d a : ℕ) (xs : List Slice) → IsSound h → Some xs ≡ agg_in h.domains d a
    → AllReadable h.store xs
agg_readable h d a xs sound is =
    each-lookup (AllReadable h.store) (domain_in h.domains d).aggs a xs (aggs_readable h d sound) is

-- one domain changes, its aggregates do not
pub sound_with : (h : KernelState) (d : ℕ) (x : Domain (List Slice)) → IsSound h → (domain_in h.domains d).live ≡ true
    → x.aggs ≡ (domain_in h.domains d).aggs → AllByRecursion (IsOpenEnd (objects_of h)) x.fds
    → IsOpenOnce (with_domain_in h.domains d x) → IsSound (record h { domains = with_domain_in h.domains d x })
sound_with h d x sound live same fds once = record {
  domains =
      each-with_domain_in (IsDomainReadable h.store) h.domains d x sound.domains
      (subst (λ (es : List (ℕ × List Slice)). AllByRecursion (λ e. AllReadable h.store e.1) es) (sym same)
      (aggs_readable h d sound));
  objects = sound.objects;
  fds = each-with_domain_in (λ (y : Domain (List Slice)). AllByRecursion (IsOpenEnd (objects_of h)) y.fds) h.domains d x
      sound.fds
      fds;
  once = once;
  counted = record { each = λ b. omega (arith, sound.counted.each b, uses-same b h.domains d x live same) };
  tidy = sound.tidy;
  still = sound.still;
  reclaimed = sound.reclaimed;
  limits = record {
    aggs =
        each-with_domain_in (λ (y : Domain (List Slice)). AllByRecursion (λ e. byte_len e.1 ≤ MAX_AGGREGATE_BYTES)
        y.aggs)
        h.domains d x sound.limits.aggs
        (subst (λ (es : List (ℕ × List Slice)). AllByRecursion (λ e. byte_len e.1 ≤ MAX_AGGREGATE_BYTES) es) (sym same)
        (aggs_small h d sound));
    few =
        omega (
          arith,
          sound.limits.few,
          sum-with_domain (λ (y : Domain (List Slice)). length y.aggs) h.domains d x live,
          ap length same,
        );
    objects = sound.limits.objects;
  };
  pooled = sound.pooled;
  sums = sound.sums;
  filed = sound.filed;
  cached = sound.cached;
}

pub sound_fds : (h : KernelState) (d : ℕ) (xs : List (Option Descriptor)) → IsSound h
    → (domain_in h.domains d).live ≡ true → AllByRecursion (IsOpenEnd (objects_of h)) xs
    → IsOpenOnce (with_fds_in h.domains d xs)
    → IsSound (record h { domains = with_fds_in h.domains d xs })
sound_fds h d xs sound live fds once =
    sound_with h d (record (domain_in h.domains d) { fds = xs }) sound live refl fds once

-- limits, when a domain gets an aggregate, or releases one

pub limits_agg : (ds : List (Domain (List Slice))) (qs : Objects (List Slice)) (d : ℕ) (xs : List Slice)
    → IsLimited ds qs → (domain_in ds d).live ≡ true → byte_len xs ≤ MAX_AGGREGATE_BYTES
    → live_aggs_in ds < MAX_AGGREGATES → IsLimited (with_agg_in ds d xs) qs
limits_agg ds qs d xs limits live small few =
    let x : Domain (List Slice) = domain_in ds d in
    let y : Domain (List Slice) = record x { aggs = x.aggs ++ (x.next_agg, xs) ∷ []; next_agg = x.next_agg + 1 } in
    let was : AllByRecursion (λ (e : ℕ × List Slice). byte_len e.1 ≤ MAX_AGGREGATE_BYTES) x.aggs =
    each-domain_in (λ (y : Domain (List Slice)). AllByRecursion (λ e. byte_len e.1 ≤ MAX_AGGREGATE_BYTES) y.aggs) ds d
    limits.aggs tt in
    record {
      aggs =
          each-with_domain_in (λ (y : Domain (List Slice)). AllByRecursion (λ e. byte_len e.1 ≤ MAX_AGGREGATE_BYTES)
          y.aggs) ds
          d y limits.aggs (each-push (λ (e : ℕ × List Slice). byte_len e.1 ≤ MAX_AGGREGATE_BYTES) x.aggs
          (x.next_agg, xs) was small);
      few =
          omega (
            arith,
            few,
            sum-with_domain (λ (y : Domain (List Slice)). length y.aggs) ds d y live,
            length-append x.aggs ((x.next_agg, xs) ∷ []),
          );
      objects = limits.objects;
    }

pub each-without : (P : ℕ × List Slice → Type 0) (es : List (ℕ × List Slice)) (a : ℕ) → AllByRecursion P es
    → AllByRecursion P (without es a)
each-without P [] a h = tt
each-without P (e ∷ es) a h = elim (cases_eq e.0 a) [
  | inl k ↦ (let w : es ≡ without (e ∷ es) a = grind (arith, nat_tests, k) in
      subst (λ (l : List (ℕ × List Slice)). AllByRecursion P l) w h.1)
  | inr k ↦ (let r : AllByRecursion P (e ∷ without es a) = (h.0, each-without P es a h.1) in
      let w : e ∷ without es a ≡ without (e ∷ es) a = grind (arith, nat_tests, k) in
      subst (λ (l : List (ℕ × List Slice)). AllByRecursion P l) w r)
]

pub limits_drop : (ds : List (Domain (List Slice))) (qs : Objects (List Slice)) (d a : ℕ) (xs : List Slice)
    → IsLimited ds qs → (domain_in ds d).live ≡ true → Some xs ≡ agg_in ds d a → IsLimited (without_agg_in ds d a) qs
limits_drop ds qs d a xs limits live is =
    let x : Domain (List Slice) = domain_in ds d in
    let was : AllByRecursion (λ (e : ℕ × List Slice). byte_len e.1 ≤ MAX_AGGREGATE_BYTES) x.aggs =
    each-domain_in (λ (y : Domain (List Slice)). AllByRecursion (λ e. byte_len e.1 ≤ MAX_AGGREGATE_BYTES) y.aggs) ds d
    limits.aggs tt in
    record {
      aggs =
          each-with_domain_in (λ (y : Domain (List Slice)). AllByRecursion (λ e. byte_len e.1 ≤ MAX_AGGREGATE_BYTES)
          y.aggs) ds
          d (record x { aggs = without x.aggs a }) limits.aggs
          (each-without (λ (e : ℕ × List Slice). byte_len e.1 ≤ MAX_AGGREGATE_BYTES) x.aggs a was);
      few =
          omega (
            arith,
            limits.few,
            sum-with_domain (λ (y : Domain (List Slice)). length y.aggs) ds d
                (record x { aggs = without x.aggs a }) live,
            length-without x.aggs a xs is,
          );
      objects = limits.objects;
    }

-- the other aggregates can still be read
pub drop_readable : (h : KernelState) (d a : ℕ) → IsSound h
    → AllByRecursion (IsDomainReadable h.store) (without_agg_in h.domains d a)
drop_readable h d a sound =
    let x : Domain (List Slice) = domain_in h.domains d in
    each-with_domain_in (IsDomainReadable h.store) h.domains d (record x { aggs = without x.aggs a }) sound.domains
    (each-without (λ (e : ℕ × List Slice). AllReadable h.store e.1) x.aggs a (aggs_readable h d sound))

pub add_readable : (s : Stored) (ds : List (Domain (List Slice))) (d : ℕ) (xs : List Slice)
    → AllByRecursion (IsDomainReadable s) ds → AllReadable s xs
    → AllByRecursion (IsDomainReadable s) (with_agg_in ds d xs)
add_readable s ds d xs e readable =
    let x : Domain (List Slice) = domain_in ds d in
    let was : IsDomainReadable s x = each-domain_in (IsDomainReadable s) ds d e tt in
    each-with_domain_in (IsDomainReadable s) ds d (record x {
      aggs = x.aggs ++ (x.next_agg, xs) ∷ [];
      next_agg =
          x.next_agg + 1;
    }) e (each-push (λ (e : ℕ × List Slice). AllReadable s e.1) x.aggs (x.next_agg, xs) was readable)

-- descriptors, when a domain's aggregates change
pub fds_stay : (qs : Objects (List Slice)) (ds : List (Domain (List Slice))) (d : ℕ) (x : Domain (List Slice))
    → AllByRecursion (λ (y : Domain (List Slice)). AllByRecursion (IsOpenEnd qs) y.fds) ds
    → x.fds ≡ (domain_in ds d).fds
    → AllByRecursion (λ (y : Domain (List Slice)). AllByRecursion (IsOpenEnd qs) y.fds) (with_domain_in ds d x)
fds_stay qs ds d x e same =
    let was : AllByRecursion (IsOpenEnd qs) (domain_in ds d).fds =
    each-domain_in (λ (y : Domain (List Slice)). AllByRecursion (IsOpenEnd qs) y.fds) ds d e tt in
    each-with_domain_in (λ (y : Domain (List Slice)). AllByRecursion (IsOpenEnd qs) y.fds) ds d x e
    (subst (λ (l : List (Option Descriptor)). AllByRecursion (IsOpenEnd qs) l) (sym same) was)

-- limits, when pipes change
pub with_pipes : {o : Objects (List Slice)} {qs : List (Option (Pipe (List Slice)))} → AreLimited o
    → AllByRecursion IsShort qs
    → length qs ≤ MAX_PIPES → AreLimited (record o { pipes = qs })
with_pipes limits short few = record {
  queues = short;
  few_pipes = few;
  conns = limits.conns;
  few_conns =
      limits.few_conns;
  rising = limits.rising;
  last = limits.last;
  cached = limits.cached;
  few_files = limits.few_files;
}
