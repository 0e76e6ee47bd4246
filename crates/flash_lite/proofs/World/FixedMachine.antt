-- The machine of a site that was set up meets the fixed conditions: its files are those of the site contents, and only
-- the server may read the net.
use Rattle.std.proofs.Common.{◌≡◌, ◌≢◌, ℕ, zero, suc, ◌+◌, ◌==◌, ◌≤◌, ◌<◌, List, [], ◌∷◌, length, map, get_or, refl}
use Rattle.std.proofs.Common.{sym, subst, ap, ◌∙◌, arith, Option, Some, None, true, false, Bool}
use Rattle.std.specs.Prelude.{◌||◌, not, bytes_eq, position, option_map, slice_index_or, if◌then◌else◌}
use Rattle.std.specs.List.{range_with_len, slice_get, list_any}
use Rattle.std.proofs.lemmas.Bool.Decides.{nat_tests}
use Rattle.std.proofs.lemmas.Grind.{common_steps}
use Rattle.std.proofs.lemmas.List.{get_or-map}
use Rattle.std.proofs.lemmas.List.Quantifiers.{position-Some}
use Rattle.std.proofs.lemmas.Option.{slice_get-get_or, get_or_from_slice_get}
use Rattle.iol_core.specs.Calls.Files.{file_called}
use Rattle.iol_core.specs.NumberedLists.{numbered_or}
use Rattle.iol_core.specs.State.{File, domain, file, content, pool, may_read, no_file, no_pool}
use Rattle.iol_core.specs.declared.limits.TheConstants.{MAX_FILE_BYTES}
use Rattle.flash_lite.specs.Setup.{is_private}
use Rattle.flash_lite.specs.SiteState.{pools_of, file_of, state_of}
use Rattle.flash_laws.specs.Answers.{Found, Failed}
use Rattle.flash_laws.specs.Conn.{most_read}
use Rattle.flash_laws.specs.Site.{found_in, outcome_in, IsFixed}
use Rattle.flash_lite.specs.SiteContents.{shown, shown_at, site_contents_of}
use Rattle.flash_lite.specs.declared.site.Site.{Site}
use Rattle.flash_lite.specs.declared.site.SiteFile.{SiteFile}
use Rattle.flash_lite.proofs.Calls.FileCalls.{position-cons, slice_get-first, slice_get-later}

-- the index of a name is its index in the site's list
position-named : (name : List ℕ) (xs : List SiteFile)
    → position (λ f. bytes_eq f.name name) (map file_of xs) ≡ position (λ f. bytes_eq f.name.items name) xs
position-named name [] = refl
position-named name (x ∷ xs) =
    position-cons (λ f. bytes_eq f.name name) (file_of x) (map file_of xs)
    ∙ (ap (λ (o : Option ℕ). if bytes_eq x.name.items name then Some 0 else option_map (λ i. i + 1) o)
    (position-named name xs) ∙ sym (position-cons (λ f. bytes_eq f.name.items name) x xs))

-- ---- readers

named_first : (n : ℕ) → list_any (λ e. e == 1) (range_with_len 1 (1 + n)) ≡ true
named_first n = let e : 1 + n ≡ suc n = omega arith in ap (λ (k : ℕ). list_any (λ d. d == 1) (range_with_len 1 k)) e

site_read : (s : Site) (slots : List (List ℕ)) → may_read (state_of s slots) 1 1 ≡ true
unfolding pool
site_read s slots = let e : 1 + s.workers + s.guests ≡ 1 + (s.workers + s.guests) = omega arith in
    ap (λ (k : ℕ). list_any (λ d. d == 1) (range_with_len 1 k)) e ∙ named_first (s.workers + s.guests)

vault_alone : (w g : ℕ)
    → list_any (λ e. e == 1) (numbered_or (pools_of true w g) 4 (record { domains = []; closed = true })).domains
    ≡ false
vault_alone w g = let e : (2 + w == 1) ≡ false = grind (arith, nat_tests) in ap (λ (b : Bool). b || false) e

vault_read : (w g : ℕ)
    → list_any (λ e. e == 2 + w) (numbered_or (pools_of true w g) 4 (record { domains = []; closed = true })).domains
    ≡ true
vault_read w g = let e : (2 + w == 2 + w) ≡ true = grind (arith, nat_tests) in ap (λ (b : Bool). b || false) e

net_alone : (s : Site) (slots : List (List ℕ)) (d : ℕ) → d ≢ 1 → may_read (state_of s slots) d 2 ≡ false
unfolding pool
net_alone s slots d differ = let e : (1 == d) ≡ false = grind (arith, nat_tests, differ) in
    ap (λ (b : Bool). b || false) e

-- ---- files

later_of : (a b : Bool) → b ≡ true → (a || b) ≡ true
later_of true b is = refl
later_of false b is = is

-- if a file is private, the site has a vault
pub private_there : (xs : List SiteFile) (i : ℕ) (x : SiteFile) → slice_get xs i ≡ Some x → x.private ≡ true
    → list_any (λ f. f.private) xs ≡ true
private_there [] i x is private = absurd (cc (is))
private_there (y ∷ ys) zero x is private =
    let same : y ≡ x = slice_get-first y x ys is in
    let e : y.private ≡ true = ap (λ (z : SiteFile). z.private) same ∙ private in
    ap (λ (b : Bool). b || list_any (λ f. f.private) ys) e
private_there (y ∷ ys) (suc i) x is private =
    let rest = private_there ys i x (sym (slice_get-later y ys i) ∙ is) private in
    later_of y.private (list_any (λ f. f.private) ys) rest

-- the file at an index of the site's list
pub record FileAt (s : Site) (i : ℕ) : Type 0 where
  pub file : SiteFile
  pub there : slice_get s.files.items i ≡ Some file
  pub within : i < length s.files.items

pub file_at : (s : Site) (name : List ℕ) (i : ℕ) → position (λ f. bytes_eq f.name.items name) s.files.items ≡ Some i
    → FileAt s i
file_at s name i found = by s.files.items refl found
  where
    by : (xs : List SiteFile) → s.files.items ≡ xs → position (λ f. bytes_eq f.name.items name) xs ≡ Some i → FileAt s i
    by [] is found = absurd (cc (found))
    by (y ∷ ys) is found =
        let lt : i < length (y ∷ ys) = (position-Some (λ f. bytes_eq f.name.items name) (y ∷ ys) i y found).0 in
        record {
          file = get_or (y ∷ ys) i y;
          there = ap (λ (l : List SiteFile). slice_get l i) is ∙ slice_get-get_or (y ∷ ys) i y lt;
          within = subst (λ (l : List SiteFile). i < length l) (sym is) lt;
        }

pub nth : {A : Type 0} (l : List A) (i : ℕ) (z : A) → numbered_or l (i + 1) z ≡ slice_index_or l i z
nth l i z = grind (arith, nat_tests, common_steps)

module _ (s : Site) (slots : List (List ℕ)) where
  pub file_there : (i : ℕ) (x : SiteFile) → slice_get s.files.items i ≡ Some x → i < length s.files.items
      → file (state_of s slots) (i + 1) ≡ file_of x
  unfolding file
  file_there i x is within = nth (map file_of s.files.items) i no_file
      ∙ (get_or-map file_of s.files.items i x no_file within
      ∙ ap (λ (y : SiteFile). file_of y) (get_or_from_slice_get s.files.items i x x is))

  pub content_there : (i : ℕ) → content (state_of s slots) (i + 1) ≡ slice_index_or slots i []
  unfolding content
  content_there i = let none : List ℕ = [] in nth slots i none

  pub may_in : (d p : ℕ) (b : Bool) → is_private s ≡ b
      → may_read (state_of s slots) d p
      ≡ list_any (λ e. e == d) (numbered_or (pools_of b s.workers s.guests) p no_pool).domains
  unfolding pool
  may_in d p b is =
      ap (λ (c : Bool). list_any (λ e. e == d) (numbered_or (pools_of c s.workers s.guests) p no_pool).domains) is

  -- the server may read exactly the files that are not private
  server_reads : (x : SiteFile) → (x.private ≡ true → is_private s ≡ true)
      → may_read (state_of s slots) 1 (file_of x).pool ≡ not x.private
  server_reads x vault = by x.private refl
    where
      by : (b : Bool) → x.private ≡ b → may_read (state_of s slots) 1 (if b then 4 else 1) ≡ not b
      by true is = may_in 1 4 true (vault is) ∙ vault_alone s.workers s.guests
      by false is = site_read s slots

  -- some domain may read each file
  somebody_reads : (x : SiteFile) → (x.private ≡ true → is_private s ≡ true)
      → (d : ℕ) × (may_read (state_of s slots) d (file_of x).pool ≡ true)
  somebody_reads x vault = by x.private refl
    where
      by : (b : Bool) → x.private ≡ b → (d : ℕ) × (may_read (state_of s slots) d (if b then 4 else 1) ≡ true)
      by true is = (2 + s.workers, may_in (2 + s.workers) 4 true (vault is) ∙ vault_read s.workers s.guests)
      by false is = (1, site_read s slots)

  found_there : (i : ℕ) (x : SiteFile) → slice_get s.files.items i ≡ Some x → i < length s.files.items
      → found_in (state_of s slots) (Some (i + 1)) ≡ shown_at s slots (Some i)
  found_there i x is within =
      let m = state_of s slots in
      let reads : may_read m 1 (file m (i + 1)).pool ≡ not x.private =
      ap (λ (f : File). may_read m 1 f.pool) (file_there i x is within)
      ∙ server_reads x (private_there s.files.items i x is) in
      ap (λ (b : Bool). if b then Found (content m (i + 1)) else Failed 403) reads
      ∙ (by x.private ∙ ap (λ (o : Option SiteFile). shown o (slice_index_or slots i [])) (sym is))
    where
      by : (b : Bool) → (if not b then Found (content (state_of s slots) (i + 1)) else Failed 403)
          ≡ (if b then Failed 403 else Found (slice_index_or slots i []))
      by true = refl
      by false = ap (λ (l : List ℕ). Found l) (content_there i)

  pub called_there : (name : List ℕ)
      → file_called (state_of s slots) name
      ≡ option_map (λ i. i + 1) (position (λ f. bytes_eq f.name.items name) s.files.items)
  called_there name = ap (λ (o : Option ℕ). option_map (λ i. i + 1) o) (position-named name s.files.items)

  outcomes_are : (name : List ℕ) → outcome_in (state_of s slots) name ≡ site_contents_of s slots name
  outcomes_are name = ap (λ (o : Option ℕ). found_in (state_of s slots) o) (called_there name)
      ∙ by (position (λ f. bytes_eq f.name.items name) s.files.items) refl
    where
      by : (o : Option ℕ) → position (λ f. bytes_eq f.name.items name) s.files.items ≡ o
          → found_in (state_of s slots) (option_map (λ i. i + 1) o) ≡ shown_at s slots o
      by None is = refl
      by (Some i) is = let f = file_at s name i is in found_there i f.file f.there f.within

  -- a file with a name is at an index of the list
  pub record CalledAt (name : List ℕ) (f : ℕ) : Type 0 where
    pub place : ℕ
    pub number : f ≡ place + 1
    pub found : position (λ g. bytes_eq g.name.items name) s.files.items ≡ Some place

  pub called_at : (name : List ℕ) (f : ℕ) → file_called (state_of s slots) name ≡ Some f → CalledAt name f
  called_at name f called = by (position (λ g. bytes_eq g.name.items name) s.files.items) refl (sym (called_there name)
      ∙ called)
    where
      by : (o : Option ℕ) → position (λ g. bytes_eq g.name.items name) s.files.items ≡ o
          → option_map (λ i. i + 1) o ≡ Some f → CalledAt name f
      by None is some = absurd (cc)
      by (Some i) is some = record { place = i; number = cc; found = is }

  lengths_are : ((i : ℕ) → i < length s.files.items → length (content (state_of s slots) (i + 1)) ≤ MAX_FILE_BYTES)
      → (name : List ℕ) (f : ℕ) → file_called (state_of s slots) name ≡ Some f
      → length (content (state_of s slots) f) ≤ most_read
  lengths_are short name f called =
      let c = called_at name f called in
      let at = file_at s name c.place c.found in
      subst (λ (k : ℕ). length (content (state_of s slots) k) ≤ most_read) (sym c.number) (short c.place at.within)

  readers_are : (name : List ℕ) (f : ℕ) → file_called (state_of s slots) name ≡ Some f
      → (d : ℕ) × (may_read (state_of s slots) d (file (state_of s slots) f).pool ≡ true)
  readers_are name f called =
      let c = called_at name f called in
      let at = file_at s name c.place c.found in
      let r = somebody_reads at.file (private_there s.files.items c.place at.file at.there) in
      let pool_is : (file_of at.file) ≡ file (state_of s slots) f = sym (file_there c.place at.file at.there at.within)
      ∙ ap (λ (k : ℕ). file (state_of s slots) k) (sym c.number) in
      (r.0, subst (λ (g : File). may_read (state_of s slots) r.0 g.pool ≡ true) pool_is r.1)

  pub fixed : ((i : ℕ) → i < length s.files.items → length (content (state_of s slots) (i + 1)) ≤ MAX_FILE_BYTES)
      → IsFixed (site_contents_of s slots) (state_of s slots)
  unfolding domain pool
  fixed short = record {
    lives = refl;
    outcomes = outcomes_are;
    lengths = lengths_are short;
    read_by = readers_are;
    net_read = refl;
    net_alone = net_alone s slots;
  }
