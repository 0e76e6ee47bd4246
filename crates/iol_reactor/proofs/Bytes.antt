-- Bytes that a socket accepts and supplies.
use Rattle.std.proofs.Common.{◌≡◌, ◌∙◌, ℕ, ◌+◌, ◌-◌, ◌≤◌, inl, inr, min, length, List, [], ◌++◌, Option, None, Some}
use Rattle.std.proofs.Common.{refl, sym, ap, take, drop, append_assoc, append-nil, arith}
use Rattle.std.proofs.Math.ListN.{drop_of_length-le}
use Rattle.std.proofs.Math.Seq.{drop-append_seam, take-length}
use Rattle.std.proofs.lemmas.Bool.{cases_lt, le-leb, leb-true}
use Rattle.std.proofs.lemmas.List.{drop-drop, drop_min, length-append, length-drop, take-append-drop}
use Rattle.std.specs.Io.KnownBytes.{Appends, Keeps}
use Rattle.std.specs.Prelude.{◌↔◌, nat_le, IsTrue}
use Rattle.iol_serve.proofs.Steps.{appends_none, appends_kept, appends_then}
use Rattle.iol_reactor.specs.declared.input.Input.{Input}
use Rattle.iol_reactor.specs.Bytes.{Gains, Grows, IsRestOf, IsSameInput, Passes, PassesSome}

pub passes_none : (held : Option (List ℕ)) (bytes : List ℕ) → Passes held held bytes bytes
passes_none held bytes = record { accepted = []; taken = appends_none held; left = refl }

pub passes_kept : (held now : Option (List ℕ)) (bytes : List ℕ) → Keeps held now → Passes held now bytes bytes
passes_kept held now bytes keeps = record { accepted = []; taken = appends_kept held now keeps; left = refl }

pub passes_some : (held now : Option (List ℕ)) (bytes : List ℕ) (n : ℕ) → Appends held now (take n bytes)
    → Passes held now bytes (drop n bytes)
passes_some held now bytes n taken =
    record { accepted = take n bytes; taken = taken; left = sym (take-append-drop n bytes) }

pub passes_then : (held mid now : Option (List ℕ)) (bytes more rest : List ℕ) → Passes held mid bytes more
    → Passes mid now more rest → Passes held now bytes rest
passes_then held mid now bytes more rest a b = record {
  accepted = a.accepted ++ b.accepted;
  taken = appends_then held mid now a.accepted b.accepted a.taken b.taken;
  left = a.left ∙ (ap (λ (l : List ℕ). a.accepted ++ l) b.left ∙ sym (append_assoc a.accepted b.accepted rest));
}

pub passes_lost : (held now : Option (List ℕ)) (bytes rest : List ℕ) → Passes held now bytes rest
    → PassesSome held now bytes
passes_lost held now bytes rest passes = (rest, passes)

pub gains_none : (supplied now : Option (List ℕ)) (buffered : List ℕ) → Keeps supplied now
    → Gains supplied now buffered buffered
gains_none supplied now buffered keeps =
    record { came = []; given = appends_kept supplied now keeps; kept = sym (append-nil buffered) }

pub grows_none : (supplied now : Option (List ℕ)) → Keeps supplied now → Grows supplied now
grows_none supplied now keeps = ([], appends_kept supplied now keeps)

pub keeps_same : (known : Option (List ℕ)) → Keeps known known
keeps_same None = tt
keeps_same (Some xs) = refl

pub keeps_then : (a b d : Option (List ℕ)) → Keeps a b → Keeps b d → Keeps a d
keeps_then None b d first next = tt
keeps_then (Some k) (Some l) (Some m) first next = next ∙ first
keeps_then (Some k) None d first next = absurd first
keeps_then (Some k) (Some l) None first next = absurd next

pub grows_then : (a b d : Option (List ℕ)) → Grows a b → Grows b d → Grows a d
grows_then a b d first next = (first.0 ++ next.0, appends_then a b d first.0 next.0 first.1 next.1)

pub grows_some : (supplied now : Option (List ℕ)) (came : List ℕ) → Appends supplied now came → Grows supplied now
grows_some supplied now came given = (came, given)

pub same_input_then : (a b d : Input) → IsSameInput a b → IsSameInput b d → IsSameInput a d
same_input_then a b d first next = record {
  bytes = next.bytes ∙ first.bytes;
  asked = next.asked ∙ first.asked;
  given = next.given ∙ first.given;
}

pub rest_whole : (bytes : List ℕ) → IsRestOf bytes bytes
rest_whole bytes = ([], refl)

pub rest_none : (bytes rest : List ℕ) → rest ≡ bytes → IsRestOf bytes rest
rest_none bytes rest same = ([], sym same)

pub rest_then : (bytes more rest : List ℕ) → IsRestOf bytes more → IsRestOf more rest → IsRestOf bytes rest
rest_then bytes more rest a b =
    (a.0 ++ b.0, a.1 ∙ (ap (λ (l : List ℕ). a.0 ++ l) b.1 ∙ sym (append_assoc a.0 b.0 rest)))

-- no byte is left from an index on
pub all_dropped : (left : List ℕ) (at count : ℕ) → count ≡ length left → IsTrue (nat_le count at) ↔ (drop at left ≡ [])
all_dropped left at count counted = (
  λ past. drop_of_length-le left (omega (arith, leb-true count at past, counted)),
  λ none. le-leb count at (omega (arith, sym (length-drop at left) ∙ ap length none, counted)),
)

-- the bytes from an index on were passed to the socket, which accepted the first of them
pub passes_from : (held now : Option (List ℕ)) (left rest : List ℕ) (at start accepted new most : ℕ)
    → Passes held now (take (length left - start) (drop start left)) rest
    → start ≡ min at (length left) → accepted ≡ length left - start - length rest → new ≡ min (at + accepted) most
    → length left ≤ most → Passes held now (drop at left) (drop new left)
passes_from held now left rest at start accepted new most passes place count sum short = record {
  accepted = passes.accepted;
  taken = passes.taken;
  left = whole ∙ ap (λ (l : List ℕ). passes.accepted ++ l) (tail ∙ same_tail);
}
  where
    within : length (drop start left) ≡ length left - start
    within = length-drop start left

    all : take (length left - start) (drop start left) ≡ drop start left
    all = ap (λ n. take n (drop start left)) (sym within) ∙ take-length (drop start left)

    split : drop start left ≡ passes.accepted ++ rest
    split = sym all ∙ passes.left

    whole : drop at left ≡ passes.accepted ++ rest
    whole = sym (ap (λ n. drop n left) place ∙ drop_min at left) ∙ split

    size : length (drop start left) ≡ length passes.accepted + length rest
    size = ap length split ∙ length-append passes.accepted rest

    counted : accepted ≡ length passes.accepted
    counted = omega (arith, count, size, within)

    tail : rest ≡ drop (at + length passes.accepted) left
    tail = sym (drop-append_seam passes.accepted rest)
        ∙ (ap (λ (l : List ℕ). drop (length passes.accepted) l) (sym whole)
        ∙ drop-drop (length passes.accepted) at left)

    same_tail : drop (at + length passes.accepted) left ≡ drop new left
    same_tail = elim (cases_lt most (at + length passes.accepted)) [
      | inl more ↦ drop_of_length-le left (omega (arith, more, short))
          ∙ sym (drop_of_length-le left (omega (arith, more, short, sum, counted)))
      | inr fits ↦ ap (λ n. drop n left) (omega (arith, fits, sum, counted))
    ]
