-- The definitions, computed: three entries, and L past 2^62.
use Rattle.std.proofs.Common.{◌≡◌, ◌-◌, ◌^◌, [], ◌∷◌, refl}
use Rattle.iol_evict.specs.Order.{Ranking, entry_or, entered, hit_at, left_at, evicted_at}

abbrev three : Ranking
three = entered (entered (entered (record { low = 0; entries = []; room = 3; kept = 0 }) 1 8192 8192 1) 2 0 4096 3) 1 0
    4096 1

-- in the order of file and place
heights : (entry_or three.entries 1 0).height ∷ (entry_or three.entries 1 8192).height
    ∷ (entry_or three.entries 2 0).height ∷ [] ≡ 4096 ∷ 2048 ∷ 12288 ∷ []
heights = refl

no_room : three.room ≡ 0
no_room = refl

-- evicting an entry sets L to its height, and removing one leaves L unchanged
low-evicted : (evicted_at three 1 8192).low ≡ 2048
low-evicted = refl

low-left : (left_at three 1 8192).low ≡ 0
low-left = refl

-- a use sets the height relative to L
height-hit : (entry_or (hit_at (evicted_at three 1 8192) 1 0).entries 1 0).height ≡ 6144
height-hit = refl

-- L exceeds 2^62: it is subtracted from all heights, and the entry below it gets 0
abbrev high : Ranking
high = entered (entered (record { low = 2 ^ 62 - 1; entries = []; room = 3; kept = 0 }) 1 0 1 1) 2 0 1 2

lowered-low : (evicted_at high 1 0).low ≡ 0
lowered-low = refl

lowered-above : (entry_or (evicted_at high 1 0).entries 2 0).height ≡ 2 ^ 24
lowered-above = refl

lowered-below : (entry_or (evicted_at high 2 0).entries 1 0).height ≡ 0
lowered-below = refl
