-- All that a domain has is released.
use Rattle.std.proofs.Common.{◌≡◌, ℕ, ◌+◌, ◌≤◌, List, [], ◌∷◌, ◌++◌, length, ap, ◌∙◌, refl, sym, subst, arith, true}
use Rattle.std.specs.List.{AllByRecursion}
use Rattle.std.specs.Prelude.{sum_by}
use Rattle.std.proofs.lemmas.List.Concat.{flat_map-cons}
use Rattle.std.proofs.lemmas.List.Sums.{sum_by-cons, sum_by_push}
use Rattle.iol_core.specs.Text.{Text}
use Rattle.iol_core.specs.State as machine
use Rattle.iol_core.specs.State.{Domain, no_domain}
use Rattle.iol_core.specs.declared.numbers.BufId.{BufId}
use Rattle.iol_hold.specs.StoreState.{Stored}
use Rattle.iol_hold.specs.Moves.{tally, Moves, Covers, Stays}
use Rattle.iol_hold.specs.Places.{byte_len}
use Rattle.iol_hold.specs.Texts.{bufs_of, AllReadable}
use Rattle.iol_hold.specs.declared.slices.Slice.{Slice}
use Rattle.iol_hold.proofs.Counts.{tally-append, tally_none}
use Rattle.iol_hold.proofs.Moves.{stays_trans}
use Rattle.iol_hold.proofs.PageChanges.{keeps_pages_frees}
use Rattle.iol_hold.proofs.ReadSlices.{readable_stays}
use Rattle.iol_desc.specs.Tables.{domain_in, with_domain_in, with_aggs_in}
use Rattle.iol_kernel.specs.Views.{state_view}
use Rattle.iol_kernel.specs.HoldCounts.{uses, domain_uses, bufs_in, IsCounted}
use Rattle.iol_kernel.specs.KernelState.{KernelState, objects_of, IsDomainReadable, IsLimited, IsSound, read_of}
use Rattle.iol_kernel.specs.Readings.{Reading}
use Rattle.iol_kernel.specs.AggregateCalls.{ReleasesAll}
use Rattle.iol_kernel.proofs.State.Views.{domain-view, with_domain-view, pools-view}
use Rattle.iol_kernel.proofs.State.Uses.{sum-with_domain, domain_le, Domains}
use Rattle.iol_kernel.proofs.State.Once.{once_same, once_fewer}
use Rattle.iol_kernel.proofs.State.Sound.{aggs_readable, each-with_domain_in, sound_with, fds_stay}
use Rattle.iol_kernel.proofs.State.Pools.{same_pooled}
use Rattle.iol_kernel.proofs.State.Effects.{moved-sound, leaves, leaves_here}
use Rattle.iol_core.specs.declared.limits.TheConstants.{MAX_AGGREGATE_BYTES}
use Rattle.iol_kernel.specs.Calls.{Leaves}

-- aggregates, the last first

pub tally-bufs_in : (b : BufId) (es : List (ℕ × List Slice)) → tally b (bufs_in es) ≡ sum_by (λ e. uses b e.1) es
tally-bufs_in b [] = tally_none b
tally-bufs_in b (e ∷ es) =
    let c = sum_by-cons (λ (e : ℕ × List Slice). uses b e.1) e es in
    let f = flat_map-cons (λ (e : ℕ × List Slice). bufs_of e.1) e es in
    omega (arith, c, ap (tally b) f, tally-append b (bufs_of e.1) (bufs_in es), tally-bufs_in b es)

tally-last : (b : BufId) (es rest : List (ℕ × List Slice)) (n : ℕ) (x : List Slice) → es ≡ rest ++ (n, x) ∷ []
    → tally b (bufs_in es) ≡ tally b (bufs_in rest) + uses b x
tally-last b es rest n x is =
    let c = sum_by_push (λ (e : ℕ × List Slice). uses b e.1) rest (n, x) in
    omega (
      arith,
      tally-bufs_in b es,
      tally-bufs_in b rest,
      ap (λ (l : List (ℕ × List Slice)). sum_by (λ e. uses b e.1) l) is,
      c,
    )

pub last_covered : (s t : Stored) (all : List BufId) (es rest : List (ℕ × List Slice)) (n : ℕ) (x : List Slice)
    → es ≡ rest ++ (n, x) ∷ [] → Covers s all → Moves s t all (bufs_in es) → Covers t (bufs_of x)
last_covered s t all es rest n x is covers moves =
    record { each = λ b. omega (arith, covers.each b, moves.counts.each b, tally-last b es rest n x is) }

pub last_released : (s t u : Stored) (all : List BufId) (es rest : List (ℕ × List Slice)) (n : ℕ) (x : List Slice)
    → es ≡ rest ++ (n, x) ∷ [] → Moves s t all (bufs_in es) → Moves t u (bufs_of x) [] → Moves s u all (bufs_in rest)
last_released s t u all es rest n x is m k = record {
  counts =
      record { each = λ b. omega (arith, tally_none b, m.counts.each b, k.counts.each b, tally-last b es rest n x is) };
  stays = stays_trans m.stays k.stays;
  still = λ h. k.still (m.still h);
  tidy = λ h. k.tidy (m.tidy h);
}

each-front : {A : Type 0} (P : A → Type 0) (xs : List A) (x : A) → AllByRecursion P (xs ++ x ∷ []) → AllByRecursion P xs
each-front P [] x e = tt
each-front P (y ∷ xs) x e = (e.0, each-front P xs x e.1)

each-last : {A : Type 0} (P : A → Type 0) (xs : List A) (x : A) → AllByRecursion P (xs ++ x ∷ []) → P x
each-last P [] x e = e.0
each-last P (y ∷ xs) x e = each-last P xs x e.1

-- all aggregates of a domain can be read
abbrev pub AreReadable : Stored → List (ℕ × List Slice) → Type 0
AreReadable s es = AllByRecursion (λ e. AllReadable s e.1) es

pub front_readable : (s : Stored) (es rest : List (ℕ × List Slice)) (n : ℕ) (x : List Slice) → es ≡ rest ++ (n, x) ∷ []
    → AreReadable s es → AreReadable s rest
front_readable s es rest n x is e =
    each-front (λ (e : ℕ × List Slice). AllReadable s e.1) rest (n, x) (subst (AreReadable s) is e)

pub last_readable : (s t : Stored) (es rest : List (ℕ × List Slice)) (n : ℕ) (x : List Slice) → es ≡ rest ++ (n, x) ∷ []
    → Stays s t → Covers t (bufs_of x) → AreReadable s es → AllReadable t x
last_readable s t es rest n x is stays covers e =
    readable_stays x stays covers
    (each-last (λ (e : ℕ × List Slice). AllReadable s e.1) rest (n, x) (subst (AreReadable s) is e))

-- all of a domain

pub all_covered : (h : KernelState) (d : ℕ) (es : List (ℕ × List Slice)) → IsSound h
    → (domain_in h.domains d).live ≡ true → es ≡ (domain_in h.domains d).aggs → Covers h.store (bufs_in es)
all_covered h d es sound live is = record {
  each = λ b. omega (
    arith,
    sound.counted.each b,
    domain_le (domain_uses b) h.domains d live,
    tally-bufs_in b es,
    ap (λ (l : List (ℕ × List Slice)). sum_by (λ e. uses b e.1) l) is,
  );
}

module _ (h : KernelState) (t : Stored) (ds : Domains) (d : ℕ) (es : List (ℕ × List Slice)) (sound : IsSound h)
    (live : (domain_in h.domains d).live ≡ true) (all : es ≡ (domain_in h.domains d).aggs)
    (rest : ds ≡ with_aggs_in h.domains d []) (released : ReleasesAll h.store t es []) where
  abbrev emptied : Domain (List Slice)
  emptied = record (domain_in h.domains d) { aggs = [] }

  emptied_counted : IsCounted t (with_domain_in h.domains d emptied) (objects_of h)
  emptied_counted = record {
    each = λ b. omega (
      arith,
      sound.counted.each b,
      released.moves.counts.each b,
      tally_none b,
      tally-bufs_in b es,
      ap (λ (l : List (ℕ × List Slice)). sum_by (λ e. uses b e.1) l) all,
      sum-with_domain (domain_uses b) h.domains d emptied live,
    );
  }

  emptied_good : AllByRecursion (IsDomainReadable h.store) (with_domain_in h.domains d emptied)
  emptied_good = each-with_domain_in (IsDomainReadable h.store) h.domains d emptied sound.domains tt

  emptied_limits : IsLimited (with_domain_in h.domains d emptied) (objects_of h)
  emptied_limits = record {
    aggs =
        each-with_domain_in (λ (y : Domain (List Slice)). AllByRecursion (λ e. byte_len e.1 ≤ MAX_AGGREGATE_BYTES)
        y.aggs)
        h.domains d emptied sound.limits.aggs tt;
    few =
        omega (
          arith,
          sound.limits.few,
          sum-with_domain (λ (y : Domain (List Slice)). length y.aggs) h.domains d emptied
              live,
        );
    objects = sound.limits.objects;
  }

  emptied-read : (f : Reading) → read_of f (record h { store = t; domains = ds }) ≡ machine.with_domain (read_of f h) d
      (record (machine.domain (read_of f h) d) { aggs = [] })
  unfolding read_of
  emptied-read f =
      ap (λ (ys : Domains). state_view f ys t.pools (objects_of h)) rest
      ∙ pools-view f (with_domain_in h.domains d emptied) h.store.pools t.pools (objects_of h) released.lists
      ∙ with_domain-view f h.domains h.store.pools (objects_of h) d emptied
      ∙ ap (λ (y : Domain Text). machine.with_domain (read_of f h) d (record y { aggs = [] }))
      (sym (domain-view f h.domains h.store.pools (objects_of h) d))

  emptied-sound : IsSound (record h { store = t; domains = ds })
  emptied-sound = subst (λ (ys : Domains). IsSound (record h { store = t; domains = ys })) (sym rest)
      (moved-sound h.store (record h { store = t; domains = with_domain_in h.domains d emptied }) released.moves.stays
      emptied_counted (released.moves.tidy sound.tidy) (released.moves.still sound.still)
      (released.reclaims (subst (λ (l : List (ℕ × List Slice)). AllByRecursion (λ e. AllReadable h.store e.1) l)
      (sym all)
      (aggs_readable h d sound)) sound.reclaimed) emptied_good sound.objects
      (fds_stay (objects_of h) h.domains d emptied sound.fds refl) (once_same h.domains d emptied live refl sound.once)
      emptied_limits (same_pooled h.store t h.conns h.cache.files released.lists sound.pooled) sound.sums
      sound.filed sound.cached (keeps_pages_frees released.frees).count)

  pub aggs_dropped : Leaves (λ s. machine.with_domain s d (record (machine.domain s d) { aggs = [] })) h
      (record h { store = t; domains = ds })
  aggs_dropped =
      leaves (λ s. machine.with_domain s d (record (machine.domain s d) { aggs = [] })) h
      (record h { store = t; domains = ds }) emptied-read refl refl released.moves.stays
      (keeps_pages_frees released.frees) (subst (λ (ys : Domains). AllByRecursion (IsDomainReadable h.store) ys)
      (sym rest)
      emptied_good) sound.objects emptied-sound

-- and the domain itself

ended-read : (f : Reading) (h : KernelState) (ds : Domains) (d : ℕ) → ds ≡ with_domain_in h.domains d no_domain
    → read_of f (record h { domains = ds }) ≡ machine.with_domain (read_of f h) d no_domain
unfolding read_of
ended-read f h ds d is = ap (λ (ys : Domains). state_view f ys h.store.pools (objects_of h)) is
    ∙ with_domain-view f h.domains h.store.pools (objects_of h) d no_domain

ended-sound : (h : KernelState) (ds : Domains) (d : ℕ) → IsSound h → (domain_in h.domains d).live ≡ true
    → (domain_in h.domains d).aggs ≡ [] → ds ≡ with_domain_in h.domains d no_domain
    → IsSound (record h { domains = ds })
ended-sound h ds d sound live none is = subst (λ (ys : Domains). IsSound (record h { domains = ys })) (sym is)
    (sound_with h d no_domain sound live (sym none) tt
    (once_fewer h.domains d no_domain live (λ e. omega arith) sound.once))

pub domain_ended : (h : KernelState) (ds : Domains) (d : ℕ) → IsSound h → (domain_in h.domains d).live ≡ true
    → (domain_in h.domains d).aggs ≡ [] → ds ≡ with_domain_in h.domains d no_domain
    → Leaves (λ s. machine.with_domain s d no_domain) h (record h { domains = ds })
domain_ended h ds d sound live none is =
    leaves_here (λ s. machine.with_domain s d no_domain) h ds (λ f. ended-read f h ds d is)
    (ended-sound h ds d sound live none is)
