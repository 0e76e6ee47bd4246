-- The number of slices.
use Rattle.std.proofs.Common.{◌≡◌, ℕ, zero, suc, ◌+◌, ◌-◌, ◌≤◌, List, [], ◌∷◌, ◌++◌, length, map, refl, ap, arith}
use Rattle.std.proofs.Common.{length-append}
use Rattle.std.specs.List.{range_with_len}
use Rattle.std.proofs.lemmas.List.{length-map, length-take}
use Rattle.iol_arena.specs.Pages.{MadeOn, begun_on}
use Rattle.iol_arena.specs.Parts.{AreApart, part_pages}
use Rattle.iol_arena.specs.State.{State, pages_for}
use Rattle.iol_arena.specs.declared.pages.Part.{Part}
use Rattle.iol_hold.specs.Places.{slice_places}
use Rattle.iol_hold.specs.Room.{free_of, lowest_of}
use Rattle.iol_hold.specs.StoreState.{Stored}
use Rattle.iol_hold.specs.Texts.{bufs_of}
use Rattle.iol_hold.specs.declared.slices.Slice.{Slice}
use Rattle.iol_pipe.specs.Queue.{first_parts}

-- The first parts of lists.

pub length-first_parts : {A : Type 0} (n : ℕ) (ps : List (List A)) → length (first_parts n ps) ≤ length ps
length-first_parts n [] = omega arith
length-first_parts zero (p ∷ ps) = omega arith
length-first_parts (suc n) (p ∷ ps) = omega (arith, length-first_parts (suc n - length p) ps)

-- slices that are the first n bytes of others
pub count_given : (front old : List Slice) (n : ℕ) → map slice_places front ≡ first_parts n (map slice_places old)
    → length front ≤ length old
count_given front old n e =
    omega (
      arith,
      ap length e,
      length-first_parts n (map slice_places old),
      length-map front slice_places,
      length-map old slice_places,
    )

-- slices that got the first n bytes of others
pub count_pushed : (new old from : List Slice) (n : ℕ) → map slice_places new ≡ map slice_places old
    ++ first_parts n (map slice_places from) → length new ≤ length old + length from
count_pushed new old from n e =
    omega (
      arith,
      ap length e,
      length-append (map slice_places old) (first_parts n (map slice_places from)),
      length-first_parts n (map slice_places from),
      length-map new slice_places,
      length-map old slice_places,
      length-map from slice_places,
    )

-- Buffers on runs of pages.

length-run : (a n : ℕ) → length (range_with_len a n) ≡ n
length-run a zero = refl
length-run a (suc n) = let r = length-run (a + 1) n in omega (arith, r)

pub parts_few : (low : ℕ) (ps : List Part) → AreApart low ps → length ps ≤ length (part_pages ps)
parts_few low [] h = omega arith
parts_few low (p ∷ ps) h =
    omega (
      arith,
      parts_few (p.first + p.count) ps h.1,
      h.0.some,
      length-append (range_with_len p.first p.count) (part_pages ps),
      length-run p.first p.count,
    )

-- at most one slice per page of n bytes
pub few_made : (s : Stored) (old new : State) (slices : List Slice) (pool n : ℕ)
    → MadeOn old new (bufs_of slices) (lowest_of s pool n) → length slices ≤ pages_for n
few_made s old new slices pool n made =
    omega (
      arith,
      length-map slices (λ (x : Slice). x.hold.buf),
      ap length made.begun,
      length-map made.runs (begun_on old),
      parts_few 0 made.runs made.apart,
      ap length made.cover,
      length-take (pages_for n) (free_of s pool),
    )
