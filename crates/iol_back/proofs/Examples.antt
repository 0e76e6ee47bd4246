-- The definitions, computed.
use Rattle.std.proofs.Common.{◌≡◌, [], ◌∷◌, refl, codes}
use Rattle.iol_back.specs.Disk.{content, overwritten, raised, last_failure}

-- files are numbered from 1, and a number without a file has no bytes
second : content (codes "ab" ∷ codes "cde" ∷ []) 2 ≡ codes "cde"
unfolding content
second = refl

none : content (codes "ab" ∷ []) 0 ≡ []
unfolding content
none = refl

past : content (codes "ab" ∷ []) 3 ≡ []
unfolding content
past = refl

-- a write within the bytes, across their end, and at their end
inside : overwritten 2 (codes "XY") (codes "abcdef") ≡ codes "abXYef"
inside = refl

over_the_end : overwritten 2 (codes "XY") (codes "abc") ≡ codes "abXY"
over_the_end = refl

behind : overwritten 3 (codes "XY") (codes "abc") ≡ codes "abcXY"
behind = refl

-- the count of failures ends at its maximum
first_failure : raised 0 ≡ 1
first_failure = refl

stays : raised last_failure ≡ last_failure
stays = refl
