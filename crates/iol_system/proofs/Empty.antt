-- An empty system, over a store.
use Rattle.std.proofs.Common.{◌≡◌, ◌∙◌, ℕ, ◌≤◌, true, List, [], ◌∷◌, length, map, refl, ap, sym, subst, arith, inl, inr}
use Rattle.std.proofs.lemmas.Bool.{cases_eq}
use Rattle.std.proofs.lemmas.Bool.Decides.{nat_tests}
use Rattle.std.proofs.lemmas.List.FromFn.{length-map-range_with_len}
use Rattle.iol_core.specs.State as machine
use Rattle.iol_core.specs.declared.limits.TheConstants.{MAX_FILES}
use Rattle.iol_back.specs.Disk.{Disk, content}
use Rattle.iol_cache.specs.CacheState.{extents_in, file_in, no_file}
use Rattle.iol_cache.specs.Contents.{IsStored}
use Rattle.iol_cache.specs.declared.files.CachedFile.{CachedFile}
use Rattle.iol_kernel.specs.FileCalls.{IsBackedBy}
use Rattle.iol_kernel.specs.KernelState.{KernelState, IsSound, machine_of, read_of}
use Rattle.iol_kernel.specs.Views.{state_view}
use Rattle.iol_extent.specs.Extents.{cover}
use Rattle.iol_kernel.proofs.State.Slots.{none_there}
use Rattle.iol_kernel.specs.Readings.{slots_of}

-- there are at least as many slots as there may be files
pub slots-enough : (stored : List (List ℕ)) → MAX_FILES ≤ length (slots_of stored)
slots-enough stored = omega (arith, length-map-range_with_len (content stored) 1 MAX_FILES)

files_none : (h : KernelState) → (machine_of [] h).files ≡ [] → h.files ≡ []
unfolding read_of state_view
files_none h none = none

no_map : {A B : Type 0} (g : A → B) (xs : List A) → map g xs ≡ [] → xs ≡ []
no_map g [] none = refl
no_map g (x ∷ xs) none = absurd (cc)

file-none : (n : ℕ) → file_in [] n ≡ no_file
unfolding file_in
file-none n = elim (cases_eq n 0) [ inl k ↦ grind (arith, nat_tests, k) | inr k ↦ grind (arith, nat_tests, k) ]

-- an honest store backs a kernel without files
no_files : (h : KernelState) (disk : Disk) → disk.honest ≡ true → (fs : List CachedFile) → fs ≡ h.cache.files → fs ≡ []
    → IsBackedBy disk h
no_files h disk honest fs same none = record {
  honest = honest;
  short = λ f there. absurd (none_there h.cache.files f (sym same ∙ none) there);
  mirrors =
      record {
        each =
            λ f. record {
              each =
                  λ i.
                  subst (λ (gs : List CachedFile). IsStored h.store (content disk.slots f) i
                  (cover (extents_in gs f) i))
                  (sym (sym same ∙ none)) (nothing f i);
            };
      };
}
  where
    nothing : (f i : ℕ) → IsStored h.store (content disk.slots f) i (cover (extents_in [] f) i)
    nothing f i = subst (λ (x : CachedFile). IsStored h.store (content disk.slots f) i (cover x.extents.extents i))
        (sym (file-none f)) tt

pub new_backed : (h : KernelState) (disk : Disk) → disk.honest ≡ true → IsSound h → (machine_of [] h).files ≡ []
    → IsBackedBy disk h
new_backed h disk honest sound none =
    no_files h disk honest h.cache.files refl
    (no_map (λ (x : CachedFile). x.pool) h.cache.files (sound.filed
    ∙ ap (map (λ (x : machine.File). x.pool)) (files_none h none)))
