-- The number of slices of new aggregates.
use Rattle.std.proofs.Common.{◌≡◌, ◌∙◌, ℕ, zero, suc, ◌+◌, ◌≤◌, List, [], ◌∷◌, length, refl, ap, arith, length-append}
use Rattle.std.specs.List.{range_with_len}
use Rattle.std.specs.Prelude.{Result, Ok, Err, OnOk}
use Rattle.std.proofs.lemmas.List.{length-map, length-take}
use Rattle.iol_arena.specs.Pages.{MadeOn, begun_on}
use Rattle.iol_arena.specs.Parts.{AreApart, part_pages}
use Rattle.iol_arena.specs.State.{State, pages_for}
use Rattle.iol_arena.specs.declared.pages.Part.{Part}
use Rattle.iol_core.specs.declared.refusals.Refusal.{Refusal}
use Rattle.iol_hold.specs.Room.{free_of, lowest_of}
use Rattle.iol_hold.specs.StoreState.{Stored}
use Rattle.iol_hold.specs.Texts.{bufs_of}
use Rattle.iol_hold.specs.declared.slices.Slice.{Slice}
use Rattle.iol_desc.specs.Tables.{with_agg_in}
use Rattle.iol_kernel.specs.KernelState.{KernelState}
use Rattle.iol_kernel.specs.NewBytes.{AddsFew}
use Rattle.iol_kernel.specs.Room.{MakesRoom}

length-run : (a n : ℕ) → length (range_with_len a n) ≡ n
length-run a zero = refl
length-run a (suc n) = let r = length-run (a + 1) n in omega (arith, r)

parts_few : (low : ℕ) (ps : List Part) → AreApart low ps → length ps ≤ length (part_pages ps)
parts_few low [] h = omega arith
parts_few low (p ∷ ps) h =
    omega (
      arith,
      parts_few (p.first + p.count) ps h.1,
      h.0.some,
      length-append (range_with_len p.first p.count) (part_pages ps),
      length-run p.first p.count,
    )

-- at most one slice per page of n bytes
pub few_made : (s : Stored) (old new : State) (slices : List Slice) (pool n : ℕ)
    → MadeOn old new (bufs_of slices) (lowest_of s pool n) → length slices ≤ pages_for n
few_made s old new slices pool n made =
    omega (
      arith,
      length-map slices (λ (x : Slice). x.hold.buf),
      ap length made.begun,
      length-map made.runs (begun_on old),
      parts_few 0 made.runs made.apart,
      ap length made.cover,
      length-take (pages_for n) (free_of s pool),
    )

-- room was made before
pub few_after : (pool pages d n : ℕ) (h k l : KernelState) (r : Result ℕ Refusal) → MakesRoom pool pages h k
    → OnOk r (AddsFew d n k l) → OnOk r (AddsFew d n h l)
few_after pool pages d n h k l (Ok a) room x =
    record {
      slices = x.slices;
      few = x.few;
      added =
          x.added ∙ ap (λ (w : KernelState). with_agg_in w.domains d x.slices) room.rest;
    }
few_after pool pages d n h k l (Err y) room x = tt
