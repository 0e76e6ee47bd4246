-- The machine of a site that was set up meets the fixed conditions of the law over whole worlds: for the server and for
-- each worker.
use Rattle.std.proofs.Common.{◌≡◌, ℕ, zero, suc, ◌+◌, ◌-◌, ◌==◌, ◌≤◌, ◌<◌, List, [], length, map, refl, sym, subst, ap}
use Rattle.std.proofs.Common.{◌∙◌, arith, Option, Some, None, true, false, Bool}
use Rattle.std.specs.Prelude.{◌||◌, not, bytes_eq, nat_lt, option_map, position, slice_index_or, if◌then◌else◌}
use Rattle.std.specs.List.{list_any, range_with_len, slice_get}
use Rattle.std.proofs.lemmas.Bool.Decides.{nat_tests}
use Rattle.std.proofs.lemmas.Grind.{common_steps}
use Rattle.std.proofs.lemmas.List.{length-map}
use Rattle.iol_core.specs.Access.{HasAccess}
use Rattle.iol_core.specs.Calls.Files.{file_called}
use Rattle.iol_core.specs.NumberedLists.{is_numbered, numbered_or}
use Rattle.iol_core.specs.Positions.{ArePlaced}
use Rattle.iol_core.specs.State.{File, content, domain, file, is_pool, may_read, no_pool, pool}
use Rattle.iol_core.specs.declared.limits.TheConstants.{MAX_FILE_BYTES}
use Rattle.iol_core.specs.declared.refusals.Refusal.TheVariants.{Denied}
use Rattle.iol_laws.specs.DescriptorNumbers.{AreLow}
use Rattle.flash_cgi.specs.Outcomes.{AreFiles, outcome_in, outcome_of}
use Rattle.flash_cgi.specs.Output.{Found, Failed}
use Rattle.flash_cgi.specs.OutputPools.{HoldFiles}
use Rattle.flash_laws.specs.SiteContents.{Refusals}
use Rattle.flash_laws.specs.Workers.WorkerSet.{IsFixedFor}
use Rattle.flash_lite.specs.WorkerSet.{worker_set_of, is_shown, is_work}
use Rattle.flash_lite.specs.Library.{library_of, seen, seen_at, seen_of}
use Rattle.flash_lite.specs.Setup.{has_script, is_in_range, is_private, workers_used}
use Rattle.flash_lite.specs.SiteState.{file_of, pools_of, state_of}
use Rattle.flash_lite.specs.declared.site.Site.{Site}
use Rattle.flash_lite.specs.declared.site.SiteFile.{SiteFile}
use Rattle.flash_lite.proofs.World.FixedMachine.{called_at, called_there, content_there, file_at, file_there, fixed}
use Rattle.flash_lite.proofs.World.FixedMachine.{may_in, private_there}

-- ---- numbers

-- a range has each of its numbers
listed : (a n d : ℕ) → a ≤ d → d < a + n → list_any (λ e. e == d) (range_with_len a n) ≡ true
listed a zero d le lt = absurd (omega (arith, le, lt))
listed a (suc n) d le lt =
    by (a == d) refl (λ is. listed (a + 1) n d (grind (arith, nat_tests, is, le)) (omega (arith, lt)))
  where
    by : (b : Bool) → (a == d) ≡ b → ((a == d) ≡ false → list_any (λ e. e == d) (range_with_len (a + 1) n) ≡ true)
        → (b || list_any (λ e. e == d) (range_with_len (a + 1) n)) ≡ true
    by true is later = refl
    by false is later = later is

-- a file number is that of an index of the list
record Within {A : Type 0} (xs : List A) (f : ℕ) : Type 0 where
  pub place : ℕ
  pub number : f ≡ place + 1
  pub within : place < length xs

numbered : {A : Type 0} (xs : List A) (f : ℕ) → is_numbered xs f ≡ true → Within xs f
numbered xs f is =
    let first : 0 < f = grind (arith, nat_tests, common_steps, is) in
    let last : f ≤ length xs = grind (arith, nat_tests, common_steps, is) in
    record { place = f - 1; number = omega (arith, first); within = omega (arith, first, last) }

same : (a b : ℕ) → (a == b) ≡ true → a ≡ b
same a b is = grind (arith, nat_tests, is)

-- ---- the number of workers that run scripts

pub used_within : (s : Site) → workers_used s ≤ s.workers
used_within s = by (has_script s)
  where
    by : (b : Bool) → (if b then s.workers else 0) ≤ s.workers
    by true = omega arith
    by false = omega arith

runs_some : (s : Site) → is_in_range s ≡ true → has_script s ≡ nat_lt 0 (workers_used s)
runs_some s fits = by (has_script s)
  where
    some : 1 ≤ s.workers
    some = grind (arith, nat_tests, common_steps, fits)

    by : (b : Bool) → b ≡ nat_lt 0 (if b then s.workers else 0)
    by true = grind (arith, nat_tests, some)
    by false = refl

-- ---- pools

pools_there : (private : Bool) (w g : ℕ) → is_numbered (pools_of private w g) 1 ≡ true
pools_there true w g = refl
pools_there false w g = refl

vault_closed : (w g d : ℕ) → d < 2 + w → list_any (λ e. e == d) (numbered_or (pools_of true w g) 4 no_pool).domains
    ≡ false
vault_closed w g d lt = let e : (2 + w == d) ≡ false = grind (arith, nat_tests, lt) in ap (λ (b : Bool). b || false) e

module _ (s : Site) (slots : List (List ℕ)) where
  -- all processes may read `site` and `work`
  site_read : (d : ℕ) → 1 ≤ d → d < 2 + s.workers → may_read (state_of s slots) d 1 ≡ true
  unfolding pool
  site_read d le lt = listed 1 (1 + s.workers + s.guests) d le (omega (arith, lt))

  work_read : (d : ℕ) → 1 ≤ d → d < 2 + s.workers → may_read (state_of s slots) d 3 ≡ true
  unfolding pool
  work_read d le lt = listed 1 (1 + s.workers + s.guests) d le (omega (arith, lt))

  -- so the server and each worker may read exactly the files that are not private
  reads : (d : ℕ) → 1 ≤ d → d < 2 + s.workers → (x : SiteFile) → (x.private ≡ true → is_private s ≡ true)
      → may_read (state_of s slots) d (file_of x).pool ≡ not x.private
  reads d le lt x vault = by x.private refl
    where
      by : (b : Bool) → x.private ≡ b → may_read (state_of s slots) d (if b then 4 else 1) ≡ not b
      by true is = may_in s slots d 4 true (vault is) ∙ vault_closed s.workers s.guests d lt
      by false is = site_read d le lt

  works_in : (d : ℕ) → 1 ≤ d → d < 2 + s.workers → (q : ℕ) → is_work q ≡ true → may_read (state_of s slots) d q ≡ true
  works_in d le lt q is =
      subst (λ (p : ℕ). may_read (state_of s slots) d p ≡ true) (sym (same q 3 is)) (work_read d le lt)

  shows_in : (d : ℕ) → 1 ≤ d → d < 2 + s.workers → (q : ℕ) → is_shown q ≡ true → may_read (state_of s slots) d q ≡ true
  shows_in d le lt q is = by (q == 1) refl is
    where
      by : (b : Bool) → (q == 1) ≡ b → (b || is_work q) ≡ true → may_read (state_of s slots) d q ≡ true
      by true one is =
          subst (λ (p : ℕ). may_read (state_of s slots) d p ≡ true) (sym (same q 1 one)) (site_read d le lt)
      by false un is = works_in d le lt q is

  -- ---- files

  -- a file with a name is one of the site's files
  record IsOfSite (f : ℕ) : Type 0 where
    pub one : SiteFile
    pub same : file (state_of s slots) f ≡ file_of one
    pub vault : one.private ≡ true → is_private s ≡ true

  of_site : (name : List ℕ) (f : ℕ) → file_called (state_of s slots) name ≡ Some f → IsOfSite f
  of_site name f called =
      let c = called_at s slots name f called in
      let at = file_at s name c.place c.found in
      record {
        one = at.file;
        same = ap (λ (k : ℕ). file (state_of s slots) k) c.number
            ∙ file_there s slots c.place at.file at.there at.within;
        vault = private_there s.files.items c.place at.file at.there;
      }

  there : (x : SiteFile) → (x.private ≡ true → is_private s ≡ true) → is_pool (state_of s slots) (file_of x).pool ≡ true
  there x vault = by x.private refl
    where
      by : (b : Bool) → x.private ≡ b → is_pool (state_of s slots) (if b then 4 else 1) ≡ true
      by true is = ap (λ (c : Bool). is_numbered (pools_of c s.workers s.guests) 4) (vault is)
      by false is = pools_there (is_private s) s.workers s.guests

  are_files : ((i : ℕ) → i < length s.files.items → length (content (state_of s slots) (i + 1)) ≤ MAX_FILE_BYTES)
      → AreFiles (state_of s slots)
  are_files short = record {
    lengths = λ f is.
        let at = numbered (map file_of s.files.items) f is in
        let len = length-map s.files.items file_of in
        let within = at.within in
        subst (λ (k : ℕ). length (content (state_of s slots) k) ≤ MAX_FILE_BYTES) (sym at.number)
        (short at.place (omega (arith, len, within)));
    pooled = λ name f called.
        let of = of_site name f called in
        subst (λ (x : File). is_pool (state_of s slots) x.pool ≡ true) (sym of.same) (there of.one of.vault);
  }

  -- the files that a worker may read are in the pools that are shown
  holds : (d : ℕ) → 1 ≤ d → d < 2 + s.workers → HoldFiles is_shown (state_of s slots) d
  holds d le lt = record { files = λ name f called may. held f (of_site name f called) may; pauses = refl }
    where
      shown : (b : Bool) → not b ≡ true → is_shown (if b then 4 else 1) ≡ true
      shown true is = absurd (cc (is))
      shown false is = refl

      held : (f : ℕ) → IsOfSite f → may_read (state_of s slots) d (file (state_of s slots) f).pool ≡ true
          → is_shown (file (state_of s slots) f).pool ≡ true
      held f of may =
          let open_to : not of.one.private ≡ true = sym (reads d le lt of.one of.vault)
          ∙ (ap (λ (x : File). may_read (state_of s slots) d x.pool) (sym of.same) ∙ may) in
          ap (λ (x : File). is_shown x.pool) of.same ∙ shown of.one.private open_to

  -- ---- the outcomes of a script's files

  seen_there : (d : ℕ) → 1 ≤ d → d < 2 + s.workers → (i : ℕ) (x : SiteFile) → slice_get s.files.items i ≡ Some x
      → i < length s.files.items → outcome_of (state_of s slots) d (Some (i + 1)) ≡ seen_at s slots (Some i)
  seen_there d le lt i x is within =
      let m = state_of s slots in
      ap (λ (f : File). if may_read m d f.pool then Found (content m (i + 1)) else Failed (Denied f.pool))
      (file_there s slots i x is within)
      ∙ (ap (λ (b : Bool). if b then Found (content m (i + 1)) else Failed (Denied (file_of x).pool))
      (reads d le lt x (private_there s.files.items i x is))
      ∙ (by x.private ∙ ap (λ (o : Option SiteFile). seen o (slice_index_or slots i [])) (sym is)))
    where
      by : (b : Bool)
          → (if not b then Found (content (state_of s slots) (i + 1)) else Failed (Denied (if b then 4 else 1)))
          ≡ (if b then Failed (Denied 4) else Found (slice_index_or slots i []))
      by true = refl
      by false = ap (λ (l : List ℕ). Found l) (content_there s slots i)

  seen_are : (d : ℕ) → 1 ≤ d → d < 2 + s.workers → (name : List ℕ)
      → outcome_in (state_of s slots) d name ≡ seen_of s slots name
  seen_are d le lt name = ap (λ (o : Option ℕ). outcome_of (state_of s slots) d o) (called_there s slots name)
      ∙ by (position (λ f. bytes_eq f.name.items name) s.files.items) refl
    where
      by : (o : Option ℕ) → position (λ f. bytes_eq f.name.items name) s.files.items ≡ o
          → outcome_of (state_of s slots) d (option_map (λ i. i + 1) o) ≡ seen_at s slots o
      by None is = refl
      by (Some i) is = let f = file_at s name i is in seen_there d le lt i f.file f.there f.within

  -- ---- all

  -- the domain of worker k is one of the first
  among : (k : ℕ) → k < workers_used s → k + 2 < 2 + s.workers
  among k lt = (let all = used_within s in omega (arith, lt, all))

  pub fixed_for : (refuses : Refusals) → is_in_range s ≡ true → HasAccess (state_of s slots)
      → ArePlaced (state_of s slots) → AreLow (state_of s slots)
      → ((i : ℕ) → i < length s.files.items → length (content (state_of s slots) (i + 1)) ≤ MAX_FILE_BYTES)
      → IsFixedFor (library_of s slots refuses) (worker_set_of s) (state_of s slots)
  unfolding domain
  fixed_for refuses fits access placed low short = record {
    site = fixed s slots short;
    access = access;
    placed = placed;
    low = low;
    files = are_files short;
    holds = λ k lt. holds (k + 2) (omega arith) (among k lt);
    shows = λ k lt name. seen_are (k + 2) (omega arith) (among k lt) name;
    wide = shows_in 1 (omega arith) (omega arith);
    read_jobs = λ k lt. works_in (k + 2) (omega arith) (among k lt);
    default = refl;
    scripts = runs_some s fits;
  }
