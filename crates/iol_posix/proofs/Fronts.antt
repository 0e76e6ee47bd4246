-- A read into the front of a memory is a read into the memory.
use Rattle.std.proofs.Common.{◌≡◌, ◌∙◌, ℕ, ◌≤◌, List, ◌++◌, length, take, drop, sym, ap, subst, arith, length-append}
use Rattle.std.specs.Prelude.{Result, Ok, Err}
use Rattle.std.proofs.lemmas.List.{drop-append-le, length-drop, length-take, take-append-drop, take-append-le}
use Rattle.iol_core.specs.Calls.Reads.{read}
use Rattle.iol_core.specs.declared.refusals.Refusal.{Refusal}
use Rattle.iol_back.specs.Disk.{Disk}
use Rattle.iol_kernel.specs.Kernel.{Serves, state_of}
use Rattle.iol_kernel.specs.ReadsByCopy.{Copies}
use Rattle.iol_kernel.specs.declared.kernel.Kernel.{Kernel}
use Rattle.iol_posix.specs.Reads.{ReadsInto}

module _ {B : Type 0} (by fd n : ℕ) (memory filled : List ℕ) (disk : B → Disk) (backing after : B) (old new : Kernel)
    (most : n ≤ length memory) where
  abbrev whole : List ℕ
  whole = filled ++ drop n memory

  front_len : length (take n memory) ≡ n
  front_len = omega (arith, length-take n memory, most)

  whole_len : length filled ≡ length (take n memory) → length whole ≡ length memory
  whole_len len = omega (arith, length-append filled (drop n memory), length-drop n memory, len, front_len, most)

  taken : (k : ℕ) → k ≤ n → length filled ≡ length (take n memory) → take k filled ≡ take k whole
  taken k few len = sym (take-append-le k filled (drop n memory) (omega (arith, few, len, front_len)))

  left : (k : ℕ) → k ≤ n → length filled ≡ length (take n memory) → drop k filled ≡ drop k (take n memory)
      → drop k whole ≡ drop k memory
  left k few len rest =
      drop-append-le k filled (drop n memory) (omega (arith, few, len, front_len))
      ∙ ap (λ (xs : List ℕ). xs ++ drop n memory) rest
      ∙ sym (drop-append-le k (take n memory) (drop n memory) (omega (arith, few, front_len)))
      ∙ ap (drop k) (take-append-drop n memory)

  over : (r : Result ℕ Refusal) → ReadsInto by fd n (take n memory) filled disk backing after old r new
      → ReadsInto by fd n memory whole disk backing after old r new
  over (Ok k) x = record {
    serves = subst (λ (bytes : List ℕ). Serves (λ s. read s by fd n) (disk backing) old (Ok bytes) (disk after) new)
        (taken k x.count x.len) x.serves;
    copies =
        subst (λ (bytes : List ℕ). Copies by fd n (disk backing) (state_of old) (Ok bytes) (disk after) (state_of new))
        (taken k x.count x.len) x.copies;
    not_memory = x.not_memory;
    count = x.count;
    len = whole_len x.len;
    rest = left k x.count x.len x.rest;
    err = tt;
  }
  over (Err y) x = record {
    serves = x.serves;
    copies = x.copies;
    not_memory = x.not_memory;
    count = tt;
    len = whole_len x.len;
    rest = tt;
    err = ap (λ (xs : List ℕ). xs ++ drop n memory) x.err ∙ take-append-drop n memory;
  }

  pub over_front : (r : Result ℕ Refusal)
      → ReadsInto by fd (length (take n memory)) (take n memory) filled disk backing after old r new
      → ReadsInto by fd n memory whole disk backing after old r new
  over_front r x =
      over r (subst (λ m. ReadsInto by fd m (take n memory) filled disk backing after old r new) front_len x)
