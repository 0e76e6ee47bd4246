-- The definitions on small cases.
use Rattle.std.proofs.Common.{◌≡◌, ℕ, true, false, [], ◌∷◌, Some, None, refl}
use Rattle.iol_sum.specs.Pieces.{swapped, joined}
use Rattle.iol_sum.specs.declared.keys.Key.{Key}
use Rattle.iol_sum.specs.Sums.{Sums, sum_kept, used}

-- RFC 1071: the bytes 00 01 f2, and after them 03 f4 f5 f6 f7
pieces_at_an_odd_place : (swapped 0xf0eb ≡ 0xebf0) × (joined 0xf201 true 0xf0eb ≡ 0xddf2)
pieces_at_an_odd_place = (refl, refl)

pieces_at_an_even_place : (joined 0xc462 false 0x0001 ≡ 0xc463) × (joined 0xffff false 0xffff ≡ 0xffff)
    × (joined 0 false 0 ≡ 0)
pieces_at_an_even_place = (refl, refl, refl)

-- the keys of the first n bytes of page 0, in its first generation and in its second
abbrev first : ℕ → Key
first n = record { page = 0; generation = 1; from = 0; len = n }

abbrev again : ℕ → Key
again n = record { page = 0; generation = 2; from = 0; len = n }

abbrev full : Sums
full = record { entries = (first 3, 30) ∷ (first 4, 40) ∷ []; limit = 2 }

-- using a remembered key makes it the first, and removes no key
used_again : used full (first 4) 40 ≡ record { entries = (first 4, 40) ∷ (first 3, 30) ∷ []; limit = 2 }
used_again = refl

-- a new key removes the last one if the list is full
used_anew : used full (first 5) 50 ≡ record { entries = (first 5, 50) ∷ (first 3, 30) ∷ []; limit = 2 }
used_anew = refl

used_with_room : used (record { entries = full.entries; limit = 3 }) (first 5) 50 ≡ record {
  entries =
      (first 5, 50) ∷ full.entries;
  limit = 3;
}
used_with_room = refl

-- the same bytes of the page have another key in its second generation
kept_of_each : (sum_kept full (first 4) ≡ Some 40) × (sum_kept full (again 4) ≡ None) × (sum_kept full (first 5) ≡ None)
kept_of_each = (refl, refl, refl)
