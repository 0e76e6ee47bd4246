-- Text and bytes of files are appended to the buffered output, and each call that makes it gives the same text.
use Rattle.std.proofs.Common.{inl, inr, ◌⊎◌, ◌≡◌, ◌≢◌, ℕ, ◌≤◌, List, [], ◌∷◌, ◌++◌, length, take, drop, refl, sym, ap}
use Rattle.std.proofs.Common.{◌∙◌, subst, arith, Option, Some, None, Bool, true, false, append_assoc, append-nil}
use Rattle.std.proofs.Common.{length-append}
use Rattle.std.specs.Prelude.{◌==◌, ◌&&◌, if◌then◌else◌, is_none, nat_lt, unwrap_or}
use Rattle.std.proofs.lemmas.List.{take-append-le, drop-append-le, length-take}
use Rattle.std.proofs.lemmas.Bool.Decides.{nat_tests}
use Rattle.std.proofs.Math.Seq.{drop-append_seam, take-append_seam}
use Rattle.flash_cgi.specs.Collecting.{Collected, bytes_of_one, collected, collected_in, is_nothing, place_behind}
use Rattle.flash_cgi.specs.Collecting.{with_file, with_text, interleaved}
use Rattle.flash_cgi.specs.Feeds.{set_in}
use Rattle.flash_cgi.specs.Pieces.{AreWithin, Gathers, HasPiece, IsApart, IsReadable, FilesAreReadable, NextIsReadable}
use Rattle.flash_cgi.specs.declared.piece.Place.{Place}

-- ---- texts

drop_whole : (xs : List ℕ) → drop (length xs) xs ≡ []
drop_whole [] = refl
drop_whole (x ∷ xs) = drop_whole xs

take_whole : (xs : List ℕ) → take (length xs) xs ≡ xs
take_whole [] = refl
take_whole (x ∷ xs) = ap (λ (l : List ℕ). x ∷ l) (take_whole xs)

-- text that is appended follows all of it
pub behind : (text said files : List ℕ) (ps : List Place) → AreWithin (length text) ps
    → interleaved (text ++ said) ps files ≡ interleaved text ps files ++ said
behind text said files [] h = refl
behind text said files (p ∷ ps) h =
    ap (λ (l : List ℕ). interleaved l ps front ++ (part ++ drop p.at (text ++ said)))
    (take-append-le p.at text said h.0)
    ∙ ap (λ (l : List ℕ). interleaved (take p.at text) ps front ++ (part ++ l)) (drop-append-le p.at text said h.0)
    ∙ sym (append_assoc (interleaved (take p.at text) ps front) (part ++ drop p.at text) said
    ∙ ap (λ (l : List ℕ). interleaved (take p.at text) ps front ++ l) (append_assoc part (drop p.at text) said))
  where
    front : List ℕ
    front = take p.from files

    part : List ℕ
    part = drop p.from files

ends_at : (text files bytes : List ℕ) (ps : List Place)
    → interleaved text (record { at = length text; from = length files } ∷ ps) (files ++ bytes)
    ≡ interleaved text ps files ++ bytes
ends_at text files bytes ps =
    ap (λ (l : List ℕ). interleaved (take (length text) text) ps l
    ++ (drop (length files) (files ++ bytes) ++ drop (length text) text)) (take-append_seam files bytes)
    ∙ ap (λ (l : List ℕ). interleaved (take (length text) text) ps files ++ (l ++ drop (length text) text))
    (drop-append_seam files bytes)
    ∙ ap (λ (l : List ℕ). interleaved l ps files ++ (bytes ++ drop (length text) text)) (take_whole text)
    ∙ ap (λ (l : List ℕ). interleaved text ps files ++ (bytes ++ l)) (drop_whole text)
    ∙ ap (λ (l : List ℕ). interleaved text ps files ++ l) (append-nil bytes)

-- and so do the bytes of one more file
pub file_behind : (text files bytes : List ℕ) (ps : List Place) (at from : ℕ) → at ≡ length text → from ≡ length files
    → interleaved text (record { at = at; from = from } ∷ ps) (files ++ bytes) ≡ interleaved text ps files ++ bytes
file_behind text files bytes ps at from at_is from_is =
    ap (λ (k : ℕ). interleaved text (record { at = k; from = from } ∷ ps) (files ++ bytes)) at_is
    ∙ (ap (λ (k : ℕ). interleaved text (record { at = length text; from = k } ∷ ps) (files ++ bytes)) from_is
    ∙ ends_at text files bytes ps)

at_front : (text : List ℕ) (k : ℕ) → k ≤ length text → length (take k text) ≡ k
at_front text k h = omega (arith, length-take k text, h)

pub wider : (a b : ℕ) (ps : List Place) → a ≤ b → AreWithin a ps → AreWithin b ps
wider a b [] le h = h
wider a b (p ∷ ps) le h = (omega (arith, le, h.0), h.1)

-- the last file's bytes may be inserted first
pub set_last : (text files : List ℕ) (p : Place) (ps : List Place) → p.at ≤ length text → AreWithin p.at ps
    → interleaved text (p ∷ ps) files ≡ interleaved (set_in text p.at (drop p.from files)) ps (take p.from files)
set_last text files p ps at within =
    sym (behind (take p.at text) (drop p.from files ++ drop p.at text) (take p.from files) ps
    (subst (λ (k : ℕ). AreWithin k ps) (sym (at_front text p.at at)) within))

-- and the other places are within the text after that
pub within_set : (text bytes : List ℕ) (at : ℕ) (ps : List Place) → at ≤ length text → AreWithin at ps
    → AreWithin (length (set_in text at bytes)) ps
within_set text bytes at ps le within =
    wider at (length (set_in text at bytes)) ps
    (let front = at_front text at le in let all = length-append (take at text) (bytes ++ drop at text) in
    omega (arith, front, all)) within

pub place_is : (len : ℕ) → len ≤ 4096 → place_behind len ≡ len
place_is len short = by (nat_lt len 4096) refl
  where
    by : (t : Bool) → nat_lt len 4096 ≡ t → (if t then len else 4096) ≡ len
    by true is = refl
    by false is = grind (arith, nat_tests, is, short)

-- ---- readable bytes

-- the buffered output is readable, with the same bytes
abbrev pub IsStillReadable : (lm ln : ℕ → Option (List ℕ)) → Collected → Type 0
IsStillReadable lm ln x = (a : ℕ) (bytes : List ℕ) → (x.held ≡ Some a) ⊎ (x.next ≡ Some a) → lm a ≡ Some bytes
    → ln a ≡ Some bytes

module _ (lm ln : ℕ → Option (List ℕ)) where
  abbrev Stays : Option ℕ → Type 0
  Stays o = (a : ℕ) (bytes : List ℕ) → o ≡ Some a → lm a ≡ Some bytes → ln a ≡ Some bytes

  files_kept : (held : Option ℕ) (ps : List Place) → Stays held → FilesAreReadable lm held ps
      → FilesAreReadable ln held ps
  files_kept None ps stays h = h
  files_kept (Some a) ps stays h = (h.0, stays a h.0 refl h.1)

  next_kept : (held next : Option ℕ) → Stays next → NextIsReadable lm held next → NextIsReadable ln held next
  next_kept held None stays h = h
  next_kept held (Some a) stays h = ((h.0.0, stays a h.0.0 refl h.0.1), h.1)

  files_same : (held : Option ℕ) (ps : List Place) → Stays held → FilesAreReadable lm held ps
      → bytes_of_one ln held ≡ bytes_of_one lm held
  files_same None ps stays h = refl
  files_same (Some a) ps stays h = ap (λ (l : Option (List ℕ)). unwrap_or l []) (stays a h.0 refl h.1 ∙ sym h.1)

  next_same : (held next : Option ℕ) → Stays next → NextIsReadable lm held next
      → bytes_of_one ln next ≡ bytes_of_one lm next
  next_same held None stays h = refl
  next_same held (Some a) stays h = ap (λ (l : Option (List ℕ)). unwrap_or l []) (stays a h.0.0 refl h.0.1 ∙ sym h.0.1)

  pub piece_kept : (len : ℕ) (x : Collected) → IsStillReadable lm ln x → HasPiece lm len x → HasPiece ln len x
  piece_kept len x stays h = record {
    files = files_kept x.held x.places (λ a bytes is l. stays a bytes (inl is) l) h.files;
    within = h.within;
    next = next_kept x.held x.next (λ a bytes is l. stays a bytes (inr is) l) h.next;
  }

  pub text_kept : (len : ℕ) (text : List ℕ) (x : Collected) → IsStillReadable lm ln x → HasPiece lm len x
      → collected_in ln text x ≡ collected_in lm text x
  text_kept len text x stays h =
      ap (λ (l : List ℕ). interleaved text x.places l ++ bytes_of_one ln x.next)
      (files_same x.held x.places (λ a bytes is l. stays a bytes (inl is) l) h.files)
      ∙ ap (λ (l : List ℕ). interleaved text x.places (bytes_of_one lm x.held) ++ l)
      (next_same x.held x.next (λ a bytes is l. stays a bytes (inr is) l) h.next)

  pub gathers_still : (x : Collected) → IsStillReadable lm ln x → Gathers lm x → Gathers ln x
  gathers_still x stays g =
      record { piece = piece_kept (length x.text) x stays g.piece; none_next = g.none_next; short = g.short }

-- ---- a number without an aggregate is no part of the buffered output

held_is_readable : (readable : ℕ → Option (List ℕ)) (held : Option ℕ) (ps : List Place) (a : ℕ)
    → FilesAreReadable readable held ps → readable a ≡ None → held ≢ Some a
held_is_readable readable None ps a h none is = absurd (cc (is))
held_is_readable readable (Some b) ps a h none is =
    (let same : b ≡ a = cc in let e = ap readable same in let was = h.1 in absurd (cc (e, was, none)))

next_is_readable : (readable : ℕ → Option (List ℕ)) (held next : Option ℕ) (a : ℕ) → NextIsReadable readable held next
    → readable a ≡ None → next ≢ Some a
next_is_readable readable held None a h none is = absurd (cc (is))
next_is_readable readable held (Some b) a h none is =
    (let same : b ≡ a = cc in let e = ap readable same in let was = h.0.1 in absurd (cc (e, was, none)))

pub new_apart : (readable : ℕ → Option (List ℕ)) (len : ℕ) (x : Collected) (a : ℕ) → HasPiece readable len x
    → readable a ≡ None → IsApart x a
new_apart readable len x a h none =
    (held_is_readable readable x.held x.places a h.files none, next_is_readable readable x.held x.next a h.next none)

-- ---- one more file is buffered

-- if only the file that is too long is left, its bytes are all of the output
pub rest_text : (readable : ℕ → Option (List ℕ)) (x : Collected) → x.text ≡ [] → x.places ≡ []
    → collected readable x ≡ bytes_of_one readable x.next
rest_text readable x no_text no_places =
    ap (λ (t : List ℕ). interleaved t x.places (bytes_of_one readable x.held) ++ bytes_of_one readable x.next) no_text
    ∙ ap (λ (ps : List Place). interleaved [] ps (bytes_of_one readable x.held) ++ bytes_of_one readable x.next)
    no_places

pub text_added : (readable : ℕ → Option (List ℕ)) (x : Collected) (said : List ℕ) → HasPiece readable (length x.text) x
    → HasPiece readable (length (x.text ++ said)) (with_text x said)
text_added readable x said h = record {
  files = h.files;
  within = wider (length x.text) (length (x.text ++ said)) x.places (omega (arith, length-append x.text said)) h.within;
  next = h.next;
}

pub said_behind : (readable : ℕ → Option (List ℕ)) (x : Collected) (said rest : List ℕ) → Gathers readable x
    → collected readable (with_text x said) ++ rest ≡ collected readable x ++ (said ++ rest)
said_behind readable x said rest g =
    ap (λ (l : List ℕ). (interleaved (x.text ++ said) x.places files ++ l) ++ rest) none
    ∙ (ap (λ (l : List ℕ). l ++ rest) (append-nil (interleaved (x.text ++ said) x.places files)
    ∙ behind x.text said files x.places g.piece.within)
    ∙ (append_assoc all said rest
    ∙ (ap (λ (l : List ℕ). l ++ (said ++ rest)) (sym (append-nil all))
    ∙ ap (λ (l : List ℕ). (all ++ l) ++ (said ++ rest)) (sym none))))
  where
    files : List ℕ
    files = bytes_of_one readable x.held

    all : List ℕ
    all = interleaved x.text x.places files

    none : bytes_of_one readable x.next ≡ []
    none = ap (λ (o : Option ℕ). bytes_of_one readable o) g.none_next

-- one more file is buffered: aggregate `a` has the bytes of the earlier files and its own
pub file_added : (ln : ℕ → Option (List ℕ)) (x : Collected) (a from len : ℕ) → AreWithin (length x.text) x.places
    → x.next ≡ None → length x.text ≤ 4096 → IsReadable ln a
    → HasPiece ln (length x.text) (with_file x a from len)
file_added ln x a from len within none short is_readable = record {
  files = is_readable;
  within = (
    let same = place_is (length x.text) short in
        omega (arith, same),
    subst (λ (k : ℕ). AreWithin k x.places) (sym (place_is (length x.text) short)) within,
  );
  next = subst (λ (o : Option ℕ). NextIsReadable ln (Some a) o) (sym none) tt;
}

pub file_in : (lm ln : ℕ → Option (List ℕ)) (x : Collected) (a from len : ℕ) (files bytes rest : List ℕ) → x.next ≡ None
    → length x.text ≤ 4096 → bytes_of_one lm x.held ≡ files → from ≡ length files → ln a ≡ Some (files ++ bytes)
    → collected ln (with_file x a from len) ++ rest ≡ collected lm x ++ (bytes ++ rest)
file_in lm ln x a from len files bytes rest none short held_is from_is is =
    ap (λ (o : Option (List ℕ)). (interleaved x.text (place ∷ x.places) (unwrap_or o []) ++ bytes_of_one ln x.next)
    ++ rest) is
    ∙ (ap (λ (o : Option ℕ). (interleaved x.text (place ∷ x.places) (files ++ bytes) ++ bytes_of_one ln o) ++ rest) none
    ∙ (ap (λ (l : List ℕ). l ++ rest) (append-nil (interleaved x.text (place ∷ x.places) (files ++ bytes))
    ∙ file_behind x.text files bytes x.places place.at from (place_is (length x.text) short) from_is)
    ∙ (append_assoc (interleaved x.text x.places files) bytes rest
    ∙ (ap (λ (l : List ℕ). interleaved x.text x.places l ++ (bytes ++ rest)) (sym held_is)
    ∙ (ap (λ (l : List ℕ). l ++ (bytes ++ rest))
    (sym (append-nil (interleaved x.text x.places (bytes_of_one lm x.held))))
    ∙ ap (λ (o : Option ℕ). (interleaved x.text x.places (bytes_of_one lm x.held) ++ bytes_of_one lm o)
    ++ (bytes ++ rest)) (sym none))))))
  where
    place : Place
    place = record { at = place_behind (length x.text); from = from }

-- ---- nothing is buffered

empty_is : {A : Type 0} (xs : List A) → (length xs == 0) ≡ true → xs ≡ []
empty_is [] e = refl
empty_is (x ∷ xs) e = absurd (let n : length (x ∷ xs) ≡ 0 = grind (arith, nat_tests, e) in omega (arith, n))

none_is : {A : Type 0} (o : Option A) → is_none o ≡ true → o ≡ None
none_is None e = refl
none_is (Some a) e = absurd (cc)

four : (a b c d : Bool) → (a && b && c && d) ≡ true → (a ≡ true) × (b ≡ true) × (c ≡ true) × (d ≡ true)
four true true true true is = (refl, refl, refl, refl)
four true true true false is = absurd (cc (is))
four true true false d is = absurd (cc (is))
four true false c d is = absurd (cc (is))
four false b c d is = absurd (cc (is))

pub record IsNothing (x : Collected) : Type 0 where
  pub text : x.text ≡ []
  pub places : x.places ≡ []
  pub held : x.held ≡ None
  pub next : x.next ≡ None

pub nothing_is : (x : Collected) → is_nothing x ≡ true → IsNothing x
nothing_is x is =
    let all = four (length x.text == 0) (length x.places == 0) (is_none x.held) (is_none x.next) is in
    record {
      text = empty_is x.text all.0;
      places = empty_is x.places all.1;
      held = none_is x.held all.2;
      next = none_is x.next all.3;
    }

pub nothing_collected : (readable : ℕ → Option (List ℕ)) (x : Collected) → IsNothing x → collected readable x ≡ []
nothing_collected readable x is = rest_text readable x is.text is.places
    ∙ ap (λ (o : Option ℕ). bytes_of_one readable o) is.next
