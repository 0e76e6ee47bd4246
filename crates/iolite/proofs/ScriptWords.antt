-- The meaning of a script's lines, extended by one.
use Rattle.std.proofs.Common.{◌≡◌, ◌≢◌, ◌∙◌, ◌⊎◌, inl, inr, false, true, ℕ, ◌+◌, ◌<◌, Bool, cond, not, ◌&&◌, List, []}
use Rattle.std.proofs.Common.{◌∷◌, ◌++◌, All, length, take, drop, get_or, map, refl, sym, ap, subst, append_assoc}
use Rattle.std.proofs.Common.{arith, length-append}
use Rattle.std.specs.Borrow.{Bor}
use Rattle.std.specs.List.{enumerate_from, filter}
use Rattle.std.proofs.lemmas.List.{append-nil, at_drop_more, get_or-map, length-map, take-append-drop, take-map}
use Rattle.std.proofs.lemmas.List.Elements.{All-push, filter-append}
use Rattle.iolite.specs.declared.script.Line.{Line}
use Rattle.iolite.specs.Script.{Asks, AskInOrder, AsksSomething, HasBadLine, IsBadAfter, IsJudged, Judges, asking}
use Rattle.iolite.specs.Script.{is_asking, is_blank, without_blank}
use Rattle.iolite.specs.Setup.{IsDefault, SetsUp, SetUp, is_header}
use Rattle.iolite.specs.Words.{word, rest_of}
use Rattle.iolite.specs.declared.setup.Setup.{Setup}

pub AskInOrder-push : (ls : List (List ℕ)) (xs : List Line) (l : List ℕ) (x : Line) → AskInOrder ls xs → Asks l x
    → AskInOrder (ls ++ l ∷ []) (xs ++ x ∷ [])
AskInOrder-push [] [] l x all asks = (asks, tt)
AskInOrder-push (a ∷ ls) (b ∷ xs) l x all asks = (all.0, AskInOrder-push ls xs l x all.1 asks)
AskInOrder-push [] (b ∷ xs) l x all asks = absurd all
AskInOrder-push (a ∷ ls) [] l x all asks = absurd all

SetUp-push : (hs : List (List ℕ)) (old mid new : Setup) (l : List ℕ) → SetUp hs old mid
    → SetsUp (word l) (rest_of l) mid new → SetUp (hs ++ l ∷ []) old new
SetUp-push [] old mid new l set more = (new, subst (λ (x : Setup). SetsUp (word l) (rest_of l) x new) set more, refl)
SetUp-push (h ∷ hs) old mid new l set more = (set.0, set.1, SetUp-push hs set.0 mid new l set.2 more)

-- ---- The lines that are not blank, and the requests among them

pub without_blank-append : (xs ys : List (List ℕ)) → without_blank (xs ++ ys) ≡ without_blank xs ++ without_blank ys
without_blank-append xs ys = filter-append (λ l. not (is_blank l)) xs ys

pub asking-append : (xs ys : List (List ℕ)) → asking (xs ++ ys) ≡ asking xs ++ asking ys
asking-append xs ys = filter-append (λ l. not (is_header (word l))) xs ys

pub commands-append : (xs ys : List (List ℕ)) → asking (without_blank (xs ++ ys)) ≡ asking (without_blank xs)
    ++ asking (without_blank ys)
commands-append xs ys = ap asking (without_blank-append xs ys) ∙ asking-append (without_blank xs) (without_blank ys)

filter-yes : (p : List ℕ → Bool) (l : List ℕ) → p l ≡ true → filter p (l ∷ []) ≡ l ∷ []
filter-yes p l e = ap (λ b. cond b (l ∷ []) []) e

filter-no : (p : List ℕ → Bool) (l : List ℕ) → p l ≡ false → filter p (l ∷ []) ≡ []
filter-no p l e = ap (λ b. cond b (l ∷ []) []) e

without_blank-yes : (l : List ℕ) → is_blank l ≡ true → without_blank (l ∷ []) ≡ []
without_blank-yes l blank = filter-no (λ x. not (is_blank x)) l (ap not blank)

without_blank-no : (l : List ℕ) → is_blank l ≡ false → without_blank (l ∷ []) ≡ l ∷ []
without_blank-no l blank = filter-yes (λ x. not (is_blank x)) l (ap not blank)

asking-yes : (l : List ℕ) → is_header (word l) ≡ false → asking (l ∷ []) ≡ l ∷ []
asking-yes l header = filter-yes (λ x. not (is_header (word x))) l (ap not header)

asking-no : (l : List ℕ) → is_header (word l) ≡ true → asking (l ∷ []) ≡ []
asking-no l header = filter-no (λ x. not (is_header (word x))) l (ap not header)

bool_cases : (b : Bool) → (b ≡ true) ⊎ (b ≡ false)
bool_cases true = inl refl
bool_cases false = inr refl

neither : (a b : Bool) → (not a && not b) ≡ true → (a ≡ false) × (b ≡ false)
neither true b e = cc
neither false true e = cc
neither false false e = (refl, refl)

other_one : (a b : Bool) → (not a && not b) ≡ false → a ≡ false → b ≡ true
other_one true b e f = cc
other_one false true e f = refl
other_one false false e f = cc

pub is_asking-yes : (l : List ℕ) → is_asking l ≡ true → asking (without_blank (l ∷ [])) ≡ l ∷ []
is_asking-yes l e =
    let both = neither (is_blank l) (is_header (word l)) e in
    ap asking (without_blank-no l both.0) ∙ asking-yes l both.1

is_asking-cases : (l : List ℕ) → is_asking l ≡ false → (is_blank l ≡ true) ⊎ (is_blank l ≡ false)
    → asking (without_blank (l ∷ [])) ≡ []
is_asking-cases l e (inl blank) = ap asking (without_blank-yes l blank)
is_asking-cases l e (inr says) = ap asking (without_blank-no l says)
    ∙ asking-no l (other_one (is_blank l) (is_header (word l)) e says)

pub is_asking-no : (l : List ℕ) → is_asking l ≡ false → asking (without_blank (l ∷ [])) ≡ []
is_asking-no l e = is_asking-cases l e (bool_cases (is_blank l))

-- ---- A script judged up to a line

-- whether a request was among the lines
abbrev Knows : Bool → List (List ℕ) → Type 0
Knows true ls = asking ls ≢ []
Knows false ls = asking ls ≡ []

-- the lines that are not blank are valid commands
pub record Judging (ls : List (List ℕ)) (setup : Setup) (has_asked : Bool) : Type 0 where
  pub judged : IsJudged (without_blank ls) setup
  pub knows : Knows has_asked (without_blank ls)

none_of : (ls : List (List ℕ)) → ls ≡ [] → All AsksSomething ls
none_of ls e = λ k d lt. absurd (omega (arith, lt, ap length e))

pub Judging-none : (x : Setup) → IsDefault x → Judging [] x false
Judging-none x default = record {
  judged = record { headers = []; all = refl; start = x; default = default; set_up = refl; ask = none_of [] refl };
  knows = refl;
}

module _ (ls : List (List ℕ)) (old new : Setup) (late more : Bool) (l : List ℕ) where
  asks-more : AsksSomething l → is_header (word l) ≡ false → IsJudged ls old → IsJudged (ls ++ l ∷ []) old
  asks-more asks header j =
      let e : asking (ls ++ l ∷ []) ≡ asking ls ++ l ∷ [] = asking-append ls (l ∷ [])
      ∙ ap (λ ys. asking ls ++ ys) (asking-yes l header) in record {
        headers = j.headers;
        all = ap (λ ys. ys ++ l ∷ []) j.all
            ∙ (append_assoc j.headers (asking ls) (l ∷ []) ∙ ap (λ ys. j.headers ++ ys) (sym e));
        start = j.start;
        default = j.default;
        set_up = j.set_up;
        ask = subst (All AsksSomething) (sym e) (All-push AsksSomething (asking ls) l j.ask asks);
      }

  asks-knows : is_header (word l) ≡ false → asking (ls ++ l ∷ []) ≢ []
  asks-knows header none =
      let e : asking (ls ++ l ∷ []) ≡ asking ls ++ l ∷ [] = asking-append ls (l ∷ [])
      ∙ ap (λ ys. asking ls ++ ys) (asking-yes l header) in
      omega (arith, ap length none, ap length e, length-append (asking ls) (l ∷ []))

  sets-knows : is_header (word l) ≡ true → asking ls ≡ [] → asking (ls ++ l ∷ []) ≡ []
  sets-knows header none = asking-append ls (l ∷ []) ∙ (ap (λ ys. ys ++ asking (l ∷ [])) none ∙ asking-no l header)

  sets-more : SetsUp (word l) (rest_of l) old new → is_header (word l) ≡ true → asking ls ≡ [] → IsJudged ls old
      → IsJudged (ls ++ l ∷ []) new
  sets-more sets header none j =
      let e = sets-knows header none in
      let headers = j.headers ++ l ∷ [] in record {
        headers = headers;
        all = ap (λ ys. ys ++ l ∷ []) (j.all ∙ (ap (λ ys. j.headers ++ ys) none ∙ append-nil j.headers))
            ∙ (sym (append-nil headers) ∙ ap (λ ys. headers ++ ys) (sym e));
        start = j.start;
        default = j.default;
        set_up = SetUp-push j.headers j.start old new l j.set_up sets;
        ask = none_of (asking (ls ++ l ∷ [])) e;
      }

  IsJudged-more : IsJudged ls old → Knows late ls → Judges old late l new more → IsJudged (ls ++ l ∷ []) new
      × Knows more (ls ++ l ∷ [])
  IsJudged-more j knows (inl x) = (
    subst (IsJudged (ls ++ l ∷ [])) (sym x.2) (asks-more x.1 x.0 j),
    subst (λ b. Knows b (ls ++ l ∷ [])) (sym x.3) (asks-knows x.0),
  )
  IsJudged-more j knows (inr x) =
      let none : asking ls ≡ [] = subst (λ b. Knows b ls) x.2 knows in
      (sets-more x.1 x.0 none j, subst (λ b. Knows b (ls ++ l ∷ [])) (sym x.3) (sets-knows x.0 none))

-- one more line that is judged
pub Judging-read : (ls : List (List ℕ)) (old new : Setup) (late more : Bool) (l : List ℕ) → Judging ls old late
    → is_blank l ≡ false → Judges old late l new more → Judging (ls ++ l ∷ []) new more
Judging-read ls old new late more l j blank judges =
    let e : without_blank (ls ++ l ∷ []) ≡ without_blank ls ++ l ∷ [] = without_blank-append ls (l ∷ [])
    ∙ ap (λ ys. without_blank ls ++ ys) (without_blank-no l blank) in
    let both = IsJudged-more (without_blank ls) old new late more l j.judged j.knows judges in record {
      judged = subst (λ ys. IsJudged ys new) (sym e) both.0;
      knows = subst (Knows more) (sym e) both.1;
    }

late_by : (setup : Setup) (P Q : Type 0) (l : List ℕ) → (P → Q) → IsBadAfter setup P l → IsBadAfter setup Q l
late_by setup P Q l so (inl x) = inl x
late_by setup P Q l so (inr (header, inl late)) = inr (header, inl (so late))
late_by setup P Q l so (inr (header, inr none)) = inr (header, inr none)

-- a line that is no command
pub Judging-bad : (all ls rest : List (List ℕ)) (setup : Setup) (late : Bool) (l : List ℕ) → all ≡ ls ++ l ∷ rest
    → Judging ls setup late → is_blank l ≡ false → IsBadAfter setup (late ≡ true) l → HasBadLine (without_blank all)
Judging-bad all ls rest setup late l e j blank bad = record {
  before = without_blank ls;
  line = l;
  after = without_blank rest;
  all = ap without_blank e
      ∙ (without_blank-append ls (l ∷ rest) ∙ ap (λ ys. without_blank ls ++ ys) (without_blank-append (l ∷ []) rest
      ∙ ap (λ ys. ys ++ without_blank rest) (without_blank-no l blank)));
  setup = setup;
  judged = j.judged;
  bad =
      late_by setup (late ≡ true) (asking (without_blank ls) ≢ []) l
      (λ is. subst (λ b. Knows b (without_blank ls)) is j.knows) bad;
}

-- ---- The lines of an iteration

-- a list, split at its next item
pub split_at_turn : {A : Type 0} (all ys : List A) (x : A) (n : ℕ) → ys ≡ take n all → n < length all
    → x ≡ get_or all n x → all ≡ ys ++ x ∷ drop (n + 1) all
split_at_turn all ys x n e lt is =
    sym (take-append-drop n all)
    ∙ (ap (λ zs. zs ++ drop n all) (sym e)
    ∙ ap (λ zs. ys ++ zs) (at_drop_more (λ zs. zs) all n x lt ∙ ap (λ z. z ∷ drop (n + 1) all) (sym is)))

map-enumerate_from : {A : Type 0} (n : ℕ) (xs : List A) → map (λ p. p.1) (enumerate_from n xs) ≡ xs
map-enumerate_from n [] = refl
map-enumerate_from n (x ∷ xs) = ap (λ ys. x ∷ ys) (map-enumerate_from (n + 1) xs)

abbrev Line_at : Type 0
Line_at = ℕ × Bor (List ℕ)

map-pairs : (xs : List Line_at) → map (λ (p : ℕ × List ℕ). p.1) (map (λ (p : Line_at). (p.0, p.1.now)) xs)
    ≡ map (λ (p : Line_at). p.1.now) xs
map-pairs [] = refl
map-pairs (x ∷ xs) = ap (λ ys. x.1.now ∷ ys) (map-pairs xs)

-- the lines of an enumeration
pub map-enumerate : (xs : List (ℕ × Bor (List ℕ))) (parts : List (List ℕ))
    → map (λ (p : ℕ × Bor (List ℕ)). (p.0, p.1.now)) xs ≡ enumerate_from 0 parts
    → map (λ (p : ℕ × Bor (List ℕ)). p.1.now) xs ≡ parts
map-enumerate xs parts all = sym (map-pairs xs) ∙ ap (map (λ (p : ℕ × List ℕ). p.1)) all ∙ map-enumerate_from 0 parts

-- the next line of an enumeration
pub turn_of_enumeration : (parts : List (List ℕ)) (xs : List (ℕ × Bor (List ℕ))) (place : ℕ) (line : List ℕ)
    → map (λ (p : ℕ × Bor (List ℕ)). (p.0, p.1.now)) xs ≡ take (length xs) (enumerate_from 0 parts)
    → length xs < length (enumerate_from 0 parts)
    → (place, line) ≡ get_or (enumerate_from 0 parts) (length xs) (place, line)
    → parts ≡ map (λ (p : ℕ × Bor (List ℕ)). p.1.now) xs ++ line ∷ drop (length xs + 1) parts
turn_of_enumeration parts xs place line so_far lt is =
    let every = enumerate_from 0 parts in
    let n = length xs in
    let of_pair : ℕ × List ℕ → List ℕ = λ p. p.1 in
    let same : map of_pair every ≡ parts = map-enumerate_from 0 parts in
    let front : map (λ (p : Line_at). p.1.now) xs ≡ take n parts = sym (map-pairs xs)
    ∙ (ap (map of_pair) so_far ∙ (sym (take-map of_pair n every) ∙ ap (take n) same)) in
    let within : n < length parts = omega (arith, lt, length-map every of_pair, ap length same) in
    let item : line ≡ get_or parts n line =
    ap of_pair is ∙ (sym (get_or-map of_pair every n (place, line) line lt) ∙ ap (λ ys. get_or ys n line) same) in
    split_at_turn parts (map (λ (p : Line_at). p.1.now) xs) line n front within item
