-- Lists, numbers and tests, for the proofs of phases.
use Rattle.std.proofs.Common.{◌≡◌, ◌≢◌, ℕ, zero, suc, ◌+◌, ◌-◌, ◌==◌, ◌<◌, ◌≤◌, List, [], ◌∷◌, ◌++◌, length, take, drop}
use Rattle.std.proofs.Common.{ap, subst, ◌∙◌, refl, sym, arith, true, false, Bool, length-append, length-drop}
use Rattle.std.specs.Prelude.{min, nat_lt, ◌||◌, ◌&&◌, not, slice_range}
use Rattle.std.proofs.lemmas.List.{take-append-le, drop-append-le, drop_all, drop-drop, length-take, length-take-le}
use Rattle.std.proofs.lemmas.Bool.Decides.{nat_tests}
use Rattle.iol_core.specs.Text.{Text, bytes_of}
use Rattle.flash_laws.specs.Conn.{piece_end}
use Rattle.flash_laws.specs.declared.phase.Sending.{Sending}

pub not-equal : (a b : ℕ) → (a ≡ b → ⊥) → (a == b) ≡ false
not-equal a b differ = grind (arith, nat_tests, differ)

pub turned : (a b : ℕ) → (a == b) ≡ false → (b == a) ≡ false
turned a b is = grind (arith, nat_tests, is)

pub clash : (b : Bool) → b ≡ true → b ≡ false → ⊥
clash true t f = absurd (cc)
clash false t f = absurd (cc)

pub self : (a : ℕ) → (a == a) ≡ true
self a = grind (arith, nat_tests)

pub first_of : (a : ℕ) (b : Bool) → ((a == a) || b) ≡ true
first_of a b = grind (arith, nat_tests)

pub later_of : (a b : Bool) → b ≡ true → (a || b) ≡ true
later_of true b is = refl
later_of false b is = is

pub former_of : (a b : Bool) → a ≡ true → (a || b) ≡ true
former_of true b is = refl
former_of false b is = absurd (cc (is))

pub former_by : (a b : Bool) → (a || b) ≡ true → b ≡ false → a ≡ true
former_by true b is none = refl
former_by false b is none = absurd (clash b is none)

pub swapped : (a b : Bool) → (a || b) ≡ true → (b || a) ≡ true
swapped true b is = later_of b true refl
swapped false b is = former_of b false is

pub bare : (a : Bool) → (a || false) ≡ true → a ≡ true
bare true is = refl
bare false is = is

pub bare-none : (a : Bool) → (a || false) ≡ false → a ≡ false
bare-none true is = is
bare-none false is = refl

pub not-false : (a : Bool) → not a ≡ false → a ≡ true
not-false true is = refl
not-false false is = absurd (cc (is))

pub not-true : (a : Bool) → not a ≡ true → a ≡ false
not-true true is = absurd (cc (is))
not-true false is = refl

pub neither : (a b : Bool) → (a || b) ≡ false → (a ≡ false) × (b ≡ false)
neither true b is = absurd (cc (is))
neither false b is = (refl, is)

pub amid : (a b c : Bool) → (a || c) ≡ true → (a || (b || c)) ≡ true
amid true b c is = refl
amid false b c is = later_of b c is

pub both-or : (a b c : Bool) → a ≡ true → b ≡ true → ((a && b) || c) ≡ true
both-or true true c is too = refl
both-or true false c is too = absurd (cc (too))
both-or false b c is too = absurd (cc (is))

pub must : (a b : Bool) → (a || not b) ≡ true → b ≡ true → a ≡ true
must true b may is = refl
must false true may is = absurd (cc (may))
must false false may is = absurd (cc (is))

pub never_passed : (a : Bool) → (a || not false) ≡ false → ⊥
never_passed true is = cc (is)
never_passed false is = cc (is)

pub bytes-append : (s t : Text) → bytes_of (s ++ t) ≡ bytes_of s ++ bytes_of t
bytes-append [] t = refl
bytes-append (b ∷ s) t = ap (λ (l : List ℕ). b.0 ∷ l) (bytes-append s t)

pub none-bytes : (t : Text) → bytes_of t ≡ [] → t ≡ []
none-bytes [] is = refl
none-bytes (b ∷ t) is = absurd (cc)

take-none : (k : ℕ) → take {A = ℕ} k [] ≡ []
take-none zero = refl
take-none (suc k) = refl

pub take-plus : (t k : ℕ) (l : List ℕ) → take (t + k) l ≡ take t l ++ take k (drop t l)
take-plus zero k l = (let e : zero + k ≡ k = omega arith in ap (λ z. take z l) e)
take-plus (suc t) k [] = take-none (suc t + k) ∙ sym (take-none k)
take-plus (suc t) k (x ∷ l) =
    (let e : suc t + k ≡ suc (t + k) = omega arith in ap (λ z. take z (x ∷ l)) e
    ∙ ap (λ (w : List ℕ). x ∷ w) (take-plus t k l))

-- the first k of the next bytes, and the bytes after them
pub next-front : (k : ℕ) (bytes after expected : List ℕ) → bytes ++ after ≡ expected → k ≤ length bytes
    → take k expected ≡ take k bytes
next-front k bytes after expected next within = sym (ap (λ (l : List ℕ). take k l) next)
    ∙ take-append-le k bytes after within

pub next-rest : (k taken : ℕ) (bytes after expected : List ℕ) → bytes ++ after ≡ drop taken expected
    → k ≤ length bytes → drop k bytes ++ after ≡ drop (taken + k) expected
next-rest k taken bytes after expected next within = sym (drop-append-le k bytes after within)
    ∙ (ap (λ (l : List ℕ). drop k l) next ∙ drop-drop k taken expected)

-- if all bytes are taken, only the bytes that follow are left
pub none-left : (bytes after : List ℕ) (from len : ℕ) → len ≡ length bytes → nat_lt from len ≡ false
    → after ≡ drop from bytes ++ after
none-left bytes after from len size is = let all : length bytes ≤ from = grind (arith, nat_tests, is, size) in
    ap (λ (l : List ℕ). l ++ after) (sym (drop_all from bytes all))

pub both-long : (xs ys : List ℕ) (size len : ℕ) → size ≡ length xs → len ≡ length ys → size + len ≡ length (xs ++ ys)
both-long xs ys size len is_x is_y = let e = length-append xs ys in omega (arith, e, is_x, is_y)

-- the first k elements of a prefix are those of the list
take-within : (k j : ℕ) (l : List ℕ) → k ≤ length (take j l) → (take k l ≡ take k (take j l)) × (k ≤ length l)
take-within zero j l le = (refl, omega arith)
take-within (suc k) zero l le = absurd (omega (arith, le))
take-within (suc k) (suc j) [] le = absurd (omega (arith, le))
take-within (suc k) (suc j) (x ∷ l) le =
    (let r = take-within k j l (omega (arith, le)) in
    (ap (λ (t : List ℕ). x ∷ t) r.0, (let e = r.1 in omega (arith, e))))

pub take-slice : (k from to : ℕ) (bytes : List ℕ) → k ≤ length (slice_range bytes from to)
    → take k (drop from bytes) ≡ take k (slice_range bytes from to)
take-slice k from to bytes within = (take-within k (to - from) (drop from bytes) within).0

-- no more bytes are taken of a piece than are left
pub few-taken : (k : ℕ) (s : Sending) (bytes : List ℕ) → k ≤ length (slice_range bytes s.from (piece_end s))
    → k ≤ length (drop s.from bytes)
few-taken k s bytes within = (take-within k (piece_end s - s.from) (drop s.from bytes) within).1

pub few-whole : (k : ℕ) (s : Sending) (bytes : List ℕ) → s.from ≡ 0 → k ≤ length bytes
    → k ≤ length (drop s.from bytes)
few-whole k s bytes is within = subst (λ z. k ≤ length (drop z bytes)) (sym is) within

pub least-taken : (k from len : ℕ) (bytes : List ℕ) → len ≡ length bytes → k ≤ length (drop from bytes)
    → min k (len - from) ≡ k
least-taken k from len bytes size within =
    let e = length-drop from bytes in
    let few : k ≤ len - from = omega (arith, within, e, size) in
    omega (arith, few)

-- the length of a range of a list
length-range : (bytes : List ℕ) (first last : ℕ) → first ≤ last → last < length bytes
    → last - first + 1 ≡ length (slice_range bytes first (last + 1))
length-range bytes first last le lt =
    let e = length-drop first bytes in
    let k : last + 1 - first ≤ length (drop first bytes) = omega (arith, e) in
    let f = length-take-le (last + 1 - first) (drop first bytes) k in
    omega (arith, f)

pub length-part : (bytes : List ℕ) (first last : ℕ) → first ≤ last → last < length bytes
    → last + 1 - first ≡ length (slice_range bytes first (last + 1))
length-part bytes first last le lt = let e = length-range bytes first last le lt in omega (arith, e, le)

-- a range that is not empty, and has as many bytes as its bounds say, is within the list
pub within-part : (from to : ℕ) (bytes : List ℕ) → from < to → to - from ≡ length (slice_range bytes from to)
    → to ≤ length bytes
within-part from to bytes some count =
    let few = length-take (to - from) (drop from bytes) in
    let all = length-drop from bytes in
    omega (arith, few, all, some, count)

pub differ : (a b : ℕ) → (a == b) ≡ false → a ≢ b
differ a b is = λ same. (let e : (a == b) ≡ true = grind (arith, nat_tests, same) in clash (a == b) e is)
