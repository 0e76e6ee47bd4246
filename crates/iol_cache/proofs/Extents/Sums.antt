-- Sums over the first files of a cache, one file after another.
use Rattle.std.proofs.Common.{◌≡◌, ◌∙◌, ◌<◌, zero, take, sym, ap, ℕ, suc, ◌+◌, List, [], ◌∷◌, length, get_or, arith}
use Rattle.std.specs.Prelude.{sum_by}
use Rattle.std.proofs.lemmas.List.{get_or_default}
use Rattle.std.proofs.lemmas.List.Sums.{sum_by-cons}
use Rattle.iol_cache.specs.declared.files.CachedFile.{CachedFile}
use Rattle.iol_cache.specs.CacheState.{file_in, no_file}
use Rattle.iol_cache.proofs.Evictions.Ready.{at_index}

pub sum_next : (w : CachedFile → ℕ) (fs : List CachedFile) (i : ℕ) (x : CachedFile) → i < length fs → x ≡ get_or fs i x
    → sum_by w (take (suc i) fs) ≡ sum_by w (take i fs) + w x
sum_next w [] i x h is = absurd (omega (arith, h))
sum_next w (y ∷ fs) zero x h is = omega (arith, sum_by-cons w y [], ap w is)
sum_next w (y ∷ fs) (suc i) x h is =
    omega (
      arith,
      sum_by-cons w y (take (suc i) fs),
      sum_by-cons w y (take i fs),
      sum_next w fs i x (omega (arith, h)) is,
    )

-- the file at an index, by its number
pub file_index : (fs : List CachedFile) (i : ℕ) (x : CachedFile) → i < length fs → x ≡ get_or fs i x
    → file_in fs (i + 1) ≡ x
file_index fs i x h is = at_index fs i ∙ get_or_default fs i no_file x h ∙ sym is
