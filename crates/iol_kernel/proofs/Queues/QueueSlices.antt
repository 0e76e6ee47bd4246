-- The slices of a queue that is read or written.
use Rattle.std.proofs.Common.{◌≡◌, ◌∙◌, ℕ, ◌++◌, ◌≤◌, List, length, map, take, Option, Some, None, false, refl, ap, sym}
use Rattle.std.proofs.Common.{subst, arith}
use Rattle.std.specs.Prelude.{Result, Ok, Err, IfOk, OnOk}
use Rattle.std.proofs.lemmas.List.{length-take}
use Rattle.iol_arena.specs.State.{pages_for}
use Rattle.iol_core.specs.State.{Domain}
use Rattle.iol_core.specs.Calls.Writes.{is_file}
use Rattle.iol_core.specs.declared.descriptors.Descriptor.{Descriptor}
use Rattle.iol_core.specs.declared.descriptors.Descriptor.TheVariants as on
use Rattle.iol_core.specs.declared.descriptors.Mode.{Mode}
use Rattle.iol_core.specs.declared.refusals.Refusal.{Refusal}
use Rattle.iol_cache.specs.declared.files.CachedFile.{CachedFile}
use Rattle.iol_desc.specs.Tables.{agg_in, with_agg_in}
use Rattle.iol_hold.specs.Places.{byte_len, slice_places}
use Rattle.iol_hold.specs.StoreState.{Stored}
use Rattle.iol_hold.specs.declared.slices.Slice.{Slice}
use Rattle.iol_pipe.specs.NewBytes.{AddsFitting}
use Rattle.iol_pipe.specs.Queue.{first_parts, fitting}
use Rattle.iol_sock.specs.Table.{conn_in}
use Rattle.iol_kernel.specs.KernelState.{KernelState, objects_of}
use Rattle.iol_kernel.specs.QueueEnds.{GivesFront}
use Rattle.iol_kernel.specs.QueueSlices.{ArrivesFew, GrowsFew, QueuesAgg, QueuesFew, TakesSlices, unsent_slices}
use Rattle.iol_kernel.specs.Room.{MakesRoom}
use Rattle.iol_kernel.specs.Views.{Objects}
use Rattle.iol_kernel.proofs.AggregateCalls.Slices.{slices_found}

-- a descriptor that is open on a file is not open on a queue
pub on_file : {A : Type 0} {o : Option Descriptor} {f at : ℕ} {mode : Mode} → o ≡ Some (on.File f at mode)
    → is_file o ≡ false → A
on_file {A} {o} {f} {at} {mode} is no_file = absurd (cc (sym (ap is_file is) ∙ no_file))

-- the front of a queue was given to a domain
pub front_taken : (h old k : KernelState) (x : Descriptor) (d n : ℕ) (slices : List Slice)
    (ds : List (Domain (List Slice))) → old ≡ h → k.domains ≡ h.domains → GivesFront x d n old k slices
    → ds ≡ with_agg_in k.domains d slices → TakesSlices d (Some x) h (record k { domains = ds })
front_taken h old k x d n slices ds is kept gives added =
    let g : GivesFront x d n h k slices = subst (λ (w : KernelState). GivesFront x d n w k slices) is gives in
    record {
      slices = slices;
      added = added ∙ ap (λ (es : List (Domain (List Slice))). with_agg_in es d slices) kept;
      front = g.divides;
    }

-- the slices of an aggregate were pushed
pub agg_queued : (h k : KernelState) (to end : Descriptor) (d a n : ℕ) (source : List Slice) → to ≡ end
    → Some source ≡ agg_in h.domains d a → n ≡ fitting (unsent_slices (objects_of h) (Some end)) (byte_len source)
    → map slice_places (unsent_slices (objects_of k) (Some end))
    ≡ map slice_places (unsent_slices (objects_of h) (Some end)) ++ first_parts n (map slice_places source)
    → QueuesAgg d a (Some to) h k
agg_queued h k to end d a n source is found taken parts =
    let old : List Slice = unsent_slices (objects_of h) (Some end) in
    subst (λ (x : Descriptor). QueuesAgg d a (Some x) h k) (sym is) (record {
      parts = parts
          ∙ ap (λ m. map slice_places old ++ first_parts m (map slice_places source)) taken
          ∙ ap (λ (xs : List Slice). map slice_places old ++ first_parts (fitting old (byte_len xs))
          (map slice_places xs)) (slices_found h.domains d a source found);
    })

-- new bytes were added, as many as fit
pub few_fitting : (s t : Stored) (old new : List Slice) (pool : ℕ) (bytes : List ℕ) (r : Result ℕ Refusal)
    → IfOk r (AddsFitting s t old new pool bytes) → OnOk r (GrowsFew (length bytes) old new)
few_fitting s t old new pool bytes (Ok n) x =
    let whole : length (take n bytes) ≡ n = omega (arith, length-take n bytes, x.taken) in
    record {
      slices = x.added.slices;
      few =
          subst (λ m. length x.added.slices ≤ pages_for m) (whole ∙ x.taken) x.added.few;
      added = x.added.added;
    }
few_fitting s t old new pool bytes (Err y) x = tt

-- Making room changes no queue.

unsent_kept : (all : Objects (List Slice)) (xs : List CachedFile) (o : Option Descriptor)
    → unsent_slices (record all { cached = xs }) o ≡ unsent_slices all o
unsent_kept all xs None = refl
unsent_kept all xs (Some (on.File f at mode)) = refl
unsent_kept all xs (Some (on.ReadEnd p)) = refl
unsent_kept all xs (Some (on.WriteEnd p)) = refl
unsent_kept all xs (Some (on.Connection c)) = refl

module _ (pool pages : ℕ) (h k : KernelState) (room : MakesRoom pool pages h k) where
  -- written to a descriptor
  pub few_put : (l : KernelState) (to end : Descriptor) (count : ℕ) (r : Result ℕ Refusal) → to ≡ end
      → OnOk r (QueuesFew count (Some end) k l) → OnOk r (QueuesFew count (Some to) h l)
  few_put l to end count r is x =
      let same : unsent_slices (objects_of k) (Some end) ≡ unsent_slices (objects_of h) (Some end) =
      ap (λ (w : KernelState). unsent_slices (objects_of w) (Some end)) room.rest
      ∙ unsent_kept (objects_of h) k.cache.files (Some end) in
      subst (λ (y : Descriptor). OnOk r (QueuesFew count (Some y) h l)) (sym is)
      (subst (λ (xs : List Slice). OnOk r (GrowsFew count xs (unsent_slices (objects_of l) (Some end)))) same x)

  -- arrived on a connection
  pub few_arrived : {A : Type 0} (l : KernelState) (c count : ℕ) (r : Result A Refusal)
      → OnOk r (ArrivesFew count c k l) → OnOk r (ArrivesFew count c h l)
  few_arrived l c count r x =
      subst (λ (w : KernelState). OnOk r (GrowsFew count (conn_in w.conns c).incoming (conn_in l.conns c).incoming))
      room.rest x
