-- No response of a site of files is longer than its longest file and a head.
use Rattle.std.proofs.Common.{inl, inr, ◌≡◌, ℕ, zero, suc, ◌+◌, ◌-◌, ◌≤◌, List, [], ◌∷◌, length, drop, ap, ◌∙◌, refl}
use Rattle.std.proofs.Common.{sym, subst, arith, Option, Some, None, true, false, Bool, length-append, length-drop}
use Rattle.std.proofs.Common.{if◌then◌else◌}
use Rattle.std.specs.Prelude.{◌==◌, not, slice_index_or}
use Rattle.std.proofs.lemmas.List.{length-take}
use Rattle.iol_core.specs.Calls.Files.{file_called}
use Rattle.iol_core.specs.NumberedLists.{numbered_or}
use Rattle.iol_core.specs.State.{State, content, file, may_read}
use Rattle.flash_http.specs.declared.ranges.Selection.{Selection}
use Rattle.flash_http.specs.declared.ranges.Selection.TheVariants.{Whole, Bytes, Unsatisfiable}
use Rattle.flash_http.specs.Range.{selected}
use Rattle.flash_http.specs.Request.{Answer, serve, refuse}
use Rattle.flash_laws.specs.Answers.{Outcome, Found, Failed, outcome_of, response, body_unless, chosen, file_text}
use Rattle.flash_laws.specs.Answers.{unsatisfiable}
use Rattle.flash_laws.specs.Client.Fits.{IsProper}
use Rattle.flash_laws.specs.Conn.{most_read, status_of, text_of}
use Rattle.flash_laws.specs.Conn.ShortHeads.{is_error_status, ContentIsShort}
use Rattle.flash_laws.specs.SiteContents.{SiteContents, MayFind, MayGive, MayBeExpected}
use Rattle.flash_laws.specs.Site.{server, found_in, IsFixed}
use Rattle.flash_laws.specs.declared.phase.Payload.{Payload}
use Rattle.flash_laws.specs.declared.phase.Payload.TheVariants.{Body, Bare, Error, Script}
use Rattle.flash_laws.specs.Workers.WorkerSet.{WorkerSet}
use Rattle.flash_laws.proofs.Conn.ShortHeads.{refusal-status}
use Rattle.flash_laws.proofs.World.AllLaws.{AllLaws}
use Rattle.flash_laws.proofs.World.OwnAlone.{next_proper}
use Rattle.flash_progress.specs.Bound.{longest_of, most_head, longest_response}
use Rattle.flash_progress.proofs.Heads.{file-text-short, error-text-short, script-text-short, unless-short}
use Rattle.flash_progress.proofs.Heads.{unsatisfiable-short}
use Rattle.flash_progress.proofs.TurnsLeft.{AreShort, no-script}

-- ---- files

indexed-short : (xs : List (List ℕ)) (k : ℕ) → length (slice_index_or xs k []) ≤ longest_of xs
indexed-short [] k = omega arith
indexed-short (x ∷ xs) zero = omega arith
indexed-short (x ∷ xs) (suc k) = let rest = indexed-short xs k in omega (arith, rest)

numbered-short : (xs : List (List ℕ)) (n : ℕ) → length (numbered_or xs n []) ≤ longest_of xs
numbered-short xs n = by (n == 0)
  where
    by : (b : Bool) → length (if b then [] else slice_index_or xs (n - 1) []) ≤ longest_of xs
    by true = omega arith
    by false = indexed-short xs (n - 1)

content-short : (m : State) (f : ℕ) → length (content m f) ≤ longest_of m.slots
unfolding content
content-short m f = numbered-short m.slots f

-- ---- the part of a file that is sent

chosen-short : (sel : Selection) (bytes : List ℕ) → length (chosen sel bytes) ≤ length bytes + 36
chosen-short Whole bytes = omega arith
chosen-short (Bytes first last) bytes =
    let part = length-take (last + 1 - first) (drop first bytes) in
    let rest = length-drop first bytes in
    omega (arith, part, rest)
chosen-short Unsatisfiable bytes = let error = unsatisfiable-short in omega (arith, error)

-- ---- heads

pub text-fits : (q : Answer) (k : Payload) → IsProper q → ContentIsShort k → length (text_of q k) ≤ most_head
text-fits (serve w) (Body a size len) proper short = let text = file-text-short w len short in omega (arith, text)
text-fits (serve w) (Bare len) proper short =
    let text = file-text-short w len short in
    let body = unless-short w.head_only unsatisfiable in
    let error = unsatisfiable-short in
    let all = length-append (file_text w len) (body_unless w.head_only unsatisfiable) in
    omega (arith, text, body, error, all)
text-fits (serve w) (Error status) proper short = let text = error-text-short status w.head_only (not w.keep) short in
    omega (arith, text)
text-fits (serve w) Script proper short = let text = script-text-short w in omega (arith, text)
text-fits (refuse status head_only close) k proper short = let text = error-text-short status head_only close proper in
    omega (arith, text)

-- ---- responses

module _ (site_contents : SiteContents) (m : State) (fixed : IsFixed site_contents.finds m)
    (files : site_contents.scripts ≡ false) where
  abbrev status_in : Outcome → ℕ
  status_in (Failed status) = status
  status_in (Found bytes) = 404

  abbrev bytes_in : Outcome → List ℕ
  bytes_in (Found bytes) = bytes
  bytes_in (Failed status) = []

  -- the bytes of a found file are those of a slot, and fit one read
  found-short : (name bytes : List ℕ) → site_contents.finds name ≡ Found bytes → (length bytes ≤ longest_of m.slots)
      × (length bytes ≤ most_read)
  found-short name bytes is = by (file_called m name) refl
    where
      by : (o : Option ℕ) → file_called m name ≡ o → (length bytes ≤ longest_of m.slots) × (length bytes ≤ most_read)
      by None none = absurd (let e = sym (ap (λ (x : Option ℕ). found_in m x) none) ∙ (fixed.outcomes name ∙ is) in
          cc (e))
      by (Some f) there = which (may_read m server (file m f).pool) (sym (ap (λ (x : Option ℕ). found_in m x) there)
          ∙ (fixed.outcomes name ∙ is))
        where
          which : (b : Bool) → (if b then Found (content m f) else Failed 403) ≡ Found bytes
              → (length bytes ≤ longest_of m.slots) × (length bytes ≤ most_read)
          which true e =
              let same : content m f ≡ bytes = ap (λ (o : Outcome). bytes_in o) e in (
                subst (λ (l : List ℕ). length l ≤ longest_of m.slots) same (content-short m f),
                subst (λ (l : List ℕ). length l ≤ most_read) same (fixed.lengths name f there),
              )
          which false e = absurd (cc (e))

  -- the status of a failed outcome is an error status of this server
  failed-status : (name : List ℕ) (status : ℕ) → site_contents.finds name ≡ Failed status
      → is_error_status status ≡ true
  failed-status name status is = by (file_called m name) refl
    where
      of : (other : ℕ) → is_error_status other ≡ true → Failed other ≡ Failed status → is_error_status status ≡ true
      of other listed e = subst (λ s. is_error_status s ≡ true) (ap (λ (o : Outcome). status_in o) e) listed

      by : (o : Option ℕ) → file_called m name ≡ o → is_error_status status ≡ true
      by None none = of 404 refl (sym (ap (λ (x : Option ℕ). found_in m x) none) ∙ (fixed.outcomes name ∙ is))
      by (Some f) there = which (may_read m server (file m f).pool) (sym (ap (λ (x : Option ℕ). found_in m x) there)
          ∙ (fixed.outcomes name ∙ is))
        where
          which : (b : Bool) → (if b then Found (content m f) else Failed 403) ≡ Failed status
              → is_error_status status ≡ true
          which true e = absurd (cc (e))
          which false e = of 403 refl e

  response-short : (q : Answer) (o : Outcome) → IsProper q → MayFind site_contents (outcome_of site_contents.finds q) o
      → length (response q o) ≤ longest_response m
  response-short (serve w) (Found bytes) proper (inl is) =
      let short = found-short w.name bytes (sym is) in
      let low = short.1 in
      let most = short.0 in
      let text = file-text-short w (length bytes) low in
      let body = unless-short w.head_only (chosen (selected w.range (length bytes)) bytes) in
      let part = chosen-short (selected w.range (length bytes)) bytes in
      let all =
      length-append (file_text w (length bytes))
      (body_unless w.head_only (chosen (selected w.range (length bytes)) bytes)) in
      omega (arith, most, text, body, part, all)
  response-short (serve w) (Found bytes) proper (inr refused) = absurd (let e = refused.2 in cc (e))
  response-short (serve w) (Failed status) proper (inl is) = let text =
      error-text-short status w.head_only (not w.keep) (failed-status w.name status (sym is)) in omega (arith, text)
  response-short (serve w) (Failed status) proper (inr refused) =
      let same : status_of refused.0 ≡ status = ap (λ (o : Outcome). status_in o) (sym refused.2) in
      let text =
      error-text-short status w.head_only (not w.keep)
      (subst (λ s. is_error_status s ≡ true) same (refusal-status refused.0)) in
      omega (arith, text)
  response-short (refuse status head_only close) o proper may = let text =
      error-text-short status head_only close proper in omega (arith, text)

  expected-short : (q : Answer) (expected : List ℕ) → IsProper q → MayBeExpected site_contents q expected
      → length expected ≤ longest_response m
  expected-short q expected proper may =
      let given : MayGive site_contents false q may.0 expected =
      subst (λ (b : Bool). MayGive site_contents b q may.0 expected) (no-script site_contents.scripts q files)
      may.2 in
      subst (λ (l : List ℕ). length l ≤ longest_response m) (sym given) (response-short q may.0 proper may.1)

  -- So no response to a proper request is longer.
  pub are-short : (worker_set : WorkerSet) → AllLaws worker_set → AreShort site_contents (longest_response m)
  are-short worker_set laws = record {
    short = expected-short;
    errors = λ s rest q next status head_only close is.
        let proper : IsProper (refuse status head_only close) =
        subst (λ (a : Answer). IsProper a) is (next_proper site_contents worker_set laws s q rest next) in
        let text = text-fits (refuse status head_only close) Script proper tt in
        subst (λ (a : Answer). length (text_of a (Error status)) ≤ longest_response m) (sym is) (omega (arith, text));
    heads = λ q proper. let text = text-fits q Script proper tt in omega (arith, text);
  }
