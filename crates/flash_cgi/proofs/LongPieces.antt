-- The bytes that a worker writes before a line are at least the minimum.
use Rattle.std.proofs.Common.{inl, inr, ◌⊎◌, ◌≡◌, ◌≢◌, ℕ, ◌+◌, ◌≤◌, List, [], ◌∷◌, ◌++◌, length, take, drop, refl, sym}
use Rattle.std.proofs.Common.{ap, ◌∙◌, subst, arith, Option, Some, None, Bool, true, false, length-append, length-drop}
use Rattle.std.specs.Prelude.{◌||◌, is_some, unwrap_or}
use Rattle.std.proofs.lemmas.List.{length-take}
use Rattle.std.proofs.lemmas.Bool.Decides.{nat_tests}
use Rattle.flash_cgi.specs.Collecting.{Collected, bytes_of_one, collected, is_expected, is_full, with_file, interleaved}
use Rattle.flash_cgi.specs.LongPieces.{HavePlaces, IsCounted, PiecesAreLong}
use Rattle.flash_cgi.specs.declared.line.Line.{Line}
use Rattle.flash_cgi.specs.declared.piece.Place.{Place}

-- the interleaved text has all bytes of the text and of the files
length-interleaved : (text files : List ℕ) (ps : List Place) → HavePlaces ps (length files)
    → length (interleaved text ps files) ≡ length text + length files
length-interleaved text files [] h = omega (arith, h)
length-interleaved text files (p ∷ ps) h =
    let front = length-take p.from files in
    let back = length-drop p.from files in
    let before = length-take p.at text in
    let behind = length-drop p.at text in
    let from_is : length (take p.from files) ≡ p.from = (let le = h.0 in omega (arith, front, le)) in
    let rest =
    length-interleaved (take p.at text) (take p.from files) ps
    (subst (λ (k : ℕ). HavePlaces ps k) (sym from_is) h.1) in
    let all =
    length-append (interleaved (take p.at text) ps (take p.from files)) (drop p.from files ++ drop p.at text) in
    let ends = length-append (drop p.from files) (drop p.at text) in
    let le = h.0 in
    omega (arith, all, ends, rest, from_is, back, before, behind, le)

either : (b c : Bool) → (b || c) ≡ true → (b ≡ true) ⊎ (c ≡ true)
either true c is = inl refl
either false c is = inr is

no_none : (o : Option ℕ) → is_some o ≡ true → o ≢ None
no_none None is none = absurd (cc (is))
no_none (Some a) is none = absurd (cc (none))

long : (readable : ℕ → Option (List ℕ)) (x : Collected) (l : Line) → IsCounted readable x
    → is_expected x (Some l) ≡ true → (4064 ≤ length (collected readable x)) ⊎ (x.next ≢ None)
long readable x l h expected = by (either (is_full x) (is_some x.next) expected)
  where
    files : List ℕ
    files = bytes_of_one readable x.held

    by : (is_full x ≡ true) ⊎ (is_some x.next ≡ true) → (4064 ≤ length (collected readable x)) ⊎ (x.next ≢ None)
    by (inl full) = inl (
        let count = h.count in
        let most : 4064 ≤ length x.text + x.files = grind (arith, nat_tests, full) in
        let all =
        length-interleaved x.text files x.places (subst (λ (k : ℕ). HavePlaces x.places k) h.count h.places) in
        let both = length-append (interleaved x.text x.places files) (bytes_of_one readable x.next) in
        omega (arith, count, most, all, both))
    by (inr next) = inr (no_none x.next next)

files_counted : (readable now : ℕ → Option (List ℕ)) (x : Collected) (a : ℕ) (bytes : List ℕ) → IsCounted readable x
    → now a ≡ Some (bytes_of_one readable x.held ++ bytes)
    → IsCounted now (with_file x a (length (bytes_of_one readable x.held)) (length bytes))
files_counted readable now x a bytes h is = record {
  count =
      sym (ap (λ (o : Option (List ℕ)). length (unwrap_or o [])) is
      ∙ length-append (bytes_of_one readable x.held) bytes);
  places = (omega arith, subst (λ (k : ℕ). HavePlaces x.places k) h.count h.places);
}

pub pieces_are_long : PiecesAreLong
pieces_are_long = record {
  starts = λ readable. record { count = refl; places = refl };
  texts = λ readable x text h. record { count = h.count; places = h.places };
  files = files_counted;
  long = long;
}
