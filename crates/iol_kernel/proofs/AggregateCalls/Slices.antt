-- A domain's aggregate in a sound state, as slices: an empty list if there is no such aggregate.
use Rattle.std.proofs.Common.{◌≡◌, ◌≢◌, ℕ, ◌≤◌, List, [], ◌++◌, ap, sym, refl, arith, Option, Some, None, true, false}
use Rattle.std.proofs.Common.{◌∙◌, inl, inr}
use Rattle.std.specs.Prelude.{unwrap_or, option_map, is_none}
use Rattle.iol_core.specs.Text.{Text}
use Rattle.iol_core.specs.State.{Domain}
use Rattle.iol_core.specs.Calls.Aggregates as aggs
use Rattle.iol_core.specs.declared.refusals.Refusal.TheVariants.{NoDomain, BadAgg}
use Rattle.iol_hold.specs.Moves.{IsCountable}
use Rattle.iol_hold.specs.Places.{byte_len}
use Rattle.iol_hold.specs.Texts.{bufs_of, AllReadable}
use Rattle.iol_hold.specs.declared.slices.Slice.{Slice}
use Rattle.iol_hold.proofs.Counts.{tally-append}
use Rattle.iol_hold.proofs.ReadSlices.{readable_none}
use Rattle.iol_desc.specs.Tables.{domain_in, agg_in}
use Rattle.iol_kernel.specs.KernelState.{KernelState, objects_of, IsSound, slices_in, read_of}
use Rattle.iol_kernel.specs.HoldCounts.{MayShare}
use Rattle.iol_kernel.specs.DomainAggregates.{HasAgg}
use Rattle.iol_kernel.specs.Readings.{Reading, bytes_over, read}
use Rattle.iol_kernel.proofs.State.Views.{aggregate-view}
use Rattle.iol_kernel.proofs.State.Sound.{agg_readable, agg_small}
use Rattle.iol_kernel.proofs.State.Uses.{agg_covered, all_few, countable}
use Rattle.iol_kernel.proofs.State.Slots.{uses_few}
use Rattle.iol_core.specs.declared.limits.TheConstants.{MAX_AGGREGATE_BYTES}
use Rattle.iol_kernel.proofs.State.ReadOf.{is_live-read_of, text-read_of, live_held}
use Rattle.iol_kernel.specs.Calls.{IsFound, IsMissing}

-- an aggregate that is looked up

pub slices_found : (ds : List (Domain (List Slice))) (d a : ℕ) (xs : List Slice) → Some xs ≡ agg_in ds d a
    → xs ≡ slices_in ds d a
slices_found ds d a xs found = ap (λ (o : Option (List Slice)). unwrap_or o []) found

pub found_slices : (ds : List (Domain (List Slice))) (d a : ℕ) → agg_in ds d a ≢ None
    → Some (slices_in ds d a) ≡ agg_in ds d a
found_slices ds d a there = of (agg_in ds d a) there
  where
    of : (o : Option (List Slice)) → o ≢ None → Some (unwrap_or o []) ≡ o
    of None none = absurd (none refl)
    of (Some xs) some = refl

-- found in an unchanged table
pub slices_kept : {ds es : List (Domain (List Slice))} (d a : ℕ) {xs : List Slice} → es ≡ ds → Some xs ≡ agg_in es d a
    → slices_in ds d a ≡ xs
slices_kept {ds} {es} d a {xs} same found =
    sym (slices_found ds d a xs (found ∙ ap (λ (ys : List (Domain (List Slice))). agg_in ys d a) same))

pub none_held : (f : Reading) (h : KernelState) (d a : ℕ) → None ≡ agg_in h.domains d a
    → aggs.lacks_agg (read_of f h) d a ≡ true
unfolding read_of
none_held f h d a none =
    ap (λ (o : Option Text). is_none o) (aggregate-view f h.domains h.store.pools (objects_of h) d a
    ∙ ap (option_map (read f)) (sym none))

pub some_held : (f : Reading) (h : KernelState) (d a : ℕ) (xs : List Slice) → Some xs ≡ agg_in h.domains d a
    → aggs.lacks_agg (read_of f h) d a ≡ false
unfolding read_of
some_held f h d a xs found =
    ap (λ (o : Option Text). is_none o) (aggregate-view f h.domains h.store.pools (objects_of h) d a
    ∙ ap (option_map (read f)) (sym found))

pub there_held : (f : Reading) (h : KernelState) (d a : ℕ) → aggs.lacks_agg (read_of f h) d a ≡ false
    → agg_in h.domains d a ≢ None
there_held f h d a there = λ none. (let lacks = none_held f h d a (sym none) in cc (lacks, there))

-- it is found

pub is_found : (h : KernelState) (d a : ℕ) (xs : List Slice) → (domain_in h.domains d).live ≡ true
    → Some xs ≡ agg_in h.domains d a → IsFound h d a xs
is_found h d a xs live found = record {
  found = found;
  live = λ f. is_live-read_of f h d ∙ live;
  there = λ f. some_held f h d a xs found;
  text = λ f. text-read_of f h d a ∙ ap (read f) (sym (slices_found h.domains d a xs found));
}

pub no_domain_missing : (h : KernelState) (d a : ℕ) → (domain_in h.domains d).live ≡ false → IsMissing h d a NoDomain
no_domain_missing h d a ended = inl (refl, λ f. is_live-read_of f h d ∙ ended)

pub no_agg_missing : (h : KernelState) (d a : ℕ) → (domain_in h.domains d).live ≡ true → None ≡ agg_in h.domains d a
    → IsMissing h d a BadAgg
no_agg_missing h d a live none = inr (refl, λ f. (is_live-read_of f h d ∙ live, none_held f h d a none))

-- facts of its slices

pub slices_readable : (h : KernelState) (d a : ℕ) → IsSound h → AllReadable h.store (slices_in h.domains d a)
slices_readable h d a sound = found (agg_in h.domains d a) (λ xs is. agg_readable h d a xs sound is)
  where
    found : (o : Option (List Slice)) → ((xs : List Slice) → Some xs ≡ o → AllReadable h.store xs)
        → AllReadable h.store (unwrap_or o [])
    found None r = readable_none h.store
    found (Some xs) r = r xs refl

pub slices_small : (h : KernelState) (d a : ℕ) → IsSound h → byte_len (slices_in h.domains d a) ≤ MAX_AGGREGATE_BYTES
slices_small h d a sound = found (agg_in h.domains d a) (λ xs is. agg_small h d a xs sound is)
  where
    found : (o : Option (List Slice)) → ((xs : List Slice) → Some xs ≡ o → byte_len xs ≤ MAX_AGGREGATE_BYTES)
        → byte_len (unwrap_or o []) ≤ MAX_AGGREGATE_BYTES
    found None r = omega arith
    found (Some xs) r = r xs refl

-- of two aggregates, the first twice
pub thrice_countable : (h : KernelState) (d a b : ℕ) → IsSound h
    → IsCountable h.store (bufs_of (slices_in h.domains d a) ++ bufs_of (slices_in h.domains d a)
    ++ bufs_of (slices_in h.domains d b))
thrice_countable h d a b sound =
    let xs : List Slice = slices_in h.domains d a in
    let ys : List Slice = slices_in h.domains d b in
    record {
      each = λ n. omega (
        arith,
        all_few n h.domains (objects_of h) sound.limits,
        sound.counted.each n,
        uses_few n xs,
        uses_few n ys,
        slices_small h d a sound,
        slices_small h d b sound,
        tally-append n (bufs_of xs) (bufs_of xs),
        tally-append n (bufs_of xs ++ bufs_of xs) (bufs_of ys),
      );
    }

-- facts of an aggregate of a domain

pub agg_live : {h : KernelState} {d a : ℕ} → HasAgg h d a → (domain_in h.domains d).live ≡ true
agg_live {h} {d} has = live_held (bytes_over [] h.store) h d has.lives.live

pub agg_there : {h : KernelState} {d a : ℕ} → HasAgg h d a → agg_in h.domains d a ≢ None
agg_there {h} {d} {a} has = there_held (bytes_over [] h.store) h d a has.there

pub agg_shared : {h : KernelState} {d a : ℕ} → HasAgg h d a → MayShare h.store (slices_in h.domains d a)
agg_shared {h} {d} {a} has = record {
  covered = agg_covered h.store h.domains (objects_of h) d a (slices_in h.domains d a) has.lives.sound.counted
      (agg_live has) (found_slices h.domains d a (agg_there has));
  countable = countable h.store h.domains (objects_of h) (slices_in h.domains d a) has.lives.sound.counted
      has.lives.sound.limits (slices_small h d a has.lives.sound);
}

pub ruleset held_rules = (live_held, there_held)
