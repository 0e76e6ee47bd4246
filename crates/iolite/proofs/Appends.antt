-- Lemmas on output that is written in parts.
use Rattle.std.proofs.Common.{◌∙◌, ◌≤◌, ◌+◌, ℕ, List, [], ◌++◌, Option, length, take, drop, sym, ap, subst}
use Rattle.std.proofs.Common.{append_assoc, arith, length-drop}
use Rattle.std.specs.declared.option.Option.TheVariants.{Some, None}
use Rattle.std.proofs.lemmas.List.{append-nil, take-append-drop, take_all}
use Rattle.std.specs.Io.KnownBytes.{Appends, Keeps}
use Rattle.iolite.specs.Answers.{WritesTo}

-- nothing is written
pub Appends-none : (known : Option (List ℕ)) → Appends known known []
Appends-none None = tt
Appends-none (Some xs) = sym (append-nil xs)

-- more is written
pub Appends-more : (old mid new : Option (List ℕ)) (front more : List ℕ) → Appends old mid front → Appends mid new more
    → Appends old new (front ++ more)
Appends-more None mid new front more wrote writes = tt
Appends-more (Some xs) None new front more wrote writes = absurd wrote
Appends-more (Some xs) (Some ys) None front more wrote writes = absurd writes
Appends-more (Some xs) (Some ys) (Some zs) front more wrote writes =
    writes ∙ (ap (λ ws. ws ++ more) wrote ∙ append_assoc xs front more)

-- no more is written
pub Appends-kept : (old mid new : Option (List ℕ)) (front : List ℕ) → Appends old mid front → Keeps mid new
    → Appends old new front
Appends-kept None mid new front wrote keeps = tt
Appends-kept (Some xs) None new front wrote keeps = absurd wrote
Appends-kept (Some xs) (Some ys) None front wrote keeps = absurd keeps
Appends-kept (Some xs) (Some ys) (Some zs) front wrote keeps = keeps ∙ wrote

-- the first n remaining bytes are written
pub WritesTo-more : (old mid new : Option (List ℕ)) (bytes rest : List ℕ) (n : ℕ) → WritesTo old mid bytes rest
    → Appends mid new (take n rest) → WritesTo old new bytes (drop n rest)
WritesTo-more old mid new bytes rest n so writes = record {
  front = so.front ++ take n rest;
  all =
      so.all
      ∙ (ap (λ ys. so.front ++ ys) (sym (take-append-drop n rest))
      ∙ sym (append_assoc so.front (take n rest) (drop n rest)));
  written = Appends-more old mid new so.front (take n rest) so.written writes;
}

-- the same, if the remaining bytes are given as a slice
pub WritesTo-sliced : (old mid new : Option (List ℕ)) (bytes rest : List ℕ) (n k : ℕ) → length rest ≤ n + k
    → WritesTo old mid bytes rest → Appends mid new (take n rest) → WritesTo old new bytes (take k (drop n rest))
WritesTo-sliced old mid new bytes rest n k fits so writes =
    subst (WritesTo old new bytes) (sym (take_all k (drop n rest) (omega (arith, fits, length-drop n rest))))
    (WritesTo-more old mid new bytes rest n so writes)

-- no more of them are written
pub WritesTo-kept : (old mid new : Option (List ℕ)) (bytes rest : List ℕ) → WritesTo old mid bytes rest → Keeps mid new
    → WritesTo old new bytes rest
WritesTo-kept old mid new bytes rest so keeps =
    record { front = so.front; all = so.all; written = Appends-kept old mid new so.front so.written keeps }

-- all bytes are written
pub WritesTo-all : (old new : Option (List ℕ)) (bytes : List ℕ) → Appends old new bytes → WritesTo old new bytes []
WritesTo-all old new bytes written = record { front = bytes; all = sym (append-nil bytes); written = written }

-- if more bytes follow, the written bytes are the same
pub WritesTo-before : (old new : Option (List ℕ)) (bytes more left : List ℕ) → WritesTo old new bytes left
    → WritesTo old new (bytes ++ more) (left ++ more)
WritesTo-before old new bytes more left so =
    record {
      front = so.front;
      all = ap (λ ys. ys ++ more) so.all ∙ append_assoc so.front left more;
      written = so.written;
    }

-- all bytes are written, and some of those that follow
pub WritesTo-behind : (old mid new : Option (List ℕ)) (bytes more left : List ℕ) → Appends old mid bytes
    → WritesTo mid new more left → WritesTo old new (bytes ++ more) left
WritesTo-behind old mid new bytes more left wrote so = record {
  front = bytes ++ so.front;
  all = ap (λ ys. bytes ++ ys) so.all ∙ sym (append_assoc bytes so.front left);
  written = Appends-more old mid new bytes so.front wrote so.written;
}
