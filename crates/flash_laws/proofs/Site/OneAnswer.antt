-- If nothing is refused, a request has one response, and a stream one answer.
use Rattle.std.proofs.Common.{inl, inr, ◌≡◌, ◌⊎◌, ℕ, List, [], ◌∷◌, ◌++◌, ◌+◌, length, map, ap, ◌∙◌, refl, sym, subst}
use Rattle.std.proofs.Common.{arith, Option, Some, None, true, false, Bool, append-nil, append_assoc, length-append}
use Rattle.std.specs.Prelude.{◌&&◌, not}
use Rattle.std.specs.List.{concat}
use Rattle.std.proofs.lemmas.Bool.{and_parts}
use Rattle.iol_core.specs.declared.refusals.Refusal.{Refusal}
use Rattle.flash_http.specs.declared.windows.Window.{Window}
use Rattle.flash_http.specs.declared.windows.Window.TheVariants.{Wait, Head, TooLarge}
use Rattle.flash_http.specs.Window.{window_in}
use Rattle.flash_http.specs.Request.{Answer, serve, refuse, Wanted, OneAnswer}
use Rattle.flash_cgi.specs.Output as script
use Rattle.flash_cgi.specs.Output.{output}
use Rattle.flash_cgi.specs.Script.{script_of}
use Rattle.flash_cgi.specs.declared.line.Line.{Line}
use Rattle.flash_laws.specs.Answers.{Outcome, Found, Failed, outcome_of, keeps, NextIn, Next, Reads, last_may_close}
use Rattle.flash_laws.specs.Answers.{last_closes}
use Rattle.flash_laws.specs.Answers.Scripts.{script_response}
use Rattle.flash_laws.specs.Client.{is_for_script}
use Rattle.flash_laws.specs.SiteContents.{SiteContents, expected_to, MayFind, MayShow, AllMayShow, MayRun}
use Rattle.flash_laws.specs.SiteContents.{MayAnswerText, MayGive, MayBeExpected, AllMayBeExpected, Begins, IsAnswer}
use Rattle.flash_laws.specs.SiteContents.Expected.{outcomes_by, expected_if, expected_of_run, expected_of_text}
use Rattle.flash_laws.specs.SiteContents.Expected.{expected_of_script}
use Rattle.flash_laws.specs.SiteContents.OneAnswer.{RefusesNothing, StreamsHaveOneAnswer}
use Rattle.flash_laws.proofs.Lists.{clash}
use Rattle.flash_laws.proofs.Site.Expected.{expected-may}

-- ---- one response

module _ (site_contents : SiteContents) (none : RefusesNothing site_contents) where
  none-found : (x : Refusal) → site_contents.refuses.of_server x ≡ true → ⊥
  none-found x may = clash (site_contents.refuses.of_server x) may (none x).0

  none-shown : (x : Refusal) → site_contents.refuses.of_workers x ≡ true → ⊥
  none-shown x may = clash (site_contents.refuses.of_workers x) may (none x).1

  find-one : (there got : Outcome) → MayFind site_contents there got → got ≡ there
  find-one there got (inl is) = is
  find-one there got (inr refused) = absurd (none-found refused.0 refused.1)

  show-first : (o p : script.Outcome) → MayShow site_contents o p → p ≡ o
  show-first o p (inl is) = is
  show-first o p (inr refused) = absurd (none-shown refused.0 refused.1)

  show-one : (there got : List script.Outcome) → AllMayShow site_contents there got → got ≡ there
  show-one [] [] all = refl
  show-one (o ∷ os) (p ∷ ps) all = ap (λ (x : script.Outcome). x ∷ ps) (show-first o p all.0)
      ∙ ap (λ (xs : List script.Outcome). o ∷ xs) (show-one os ps all.1)
  show-one [] (p ∷ ps) all = absurd all
  show-one (o ∷ os) [] all = absurd all

  run-one : (b : Bool) (w : Wanted) (lines : List Line) (r : List ℕ) → MayRun site_contents b w lines r
      → r ≡ expected_of_run b site_contents.shows w lines
  run-one true w lines r may = may
  run-one false w lines r may =
      may.2 ∙ ap (λ (os : List script.Outcome). script_response w (output w.query lines os))
      (show-one (outcomes_by site_contents.shows lines) may.0 may.1)

  text-one : (w : Wanted) (o : Option (List Line)) (r : List ℕ) → MayAnswerText site_contents w o r
      → r ≡ expected_of_text site_contents.shows w o
  text-one w (Some lines) r may = run-one w.head_only w lines r may
  text-one w None r may = may

  script-one : (w : Wanted) (o : Outcome) (r : List ℕ) → MayGive site_contents true (serve w) o r
      → r ≡ expected_of_script site_contents.shows w o
  script-one w (Found text) r may = text-one w (script_of text) r may
  script-one w (Failed status) r may = may

  give-one : (b : Bool) (q : Answer) (r : List ℕ) → MayGive site_contents b q (outcome_of site_contents.finds q) r
      → r ≡ expected_if b site_contents.finds site_contents.shows q
  give-one true (serve w) r may = script-one w (site_contents.finds w.name) r may
  give-one true (refuse status head_only close) r may = may
  give-one false (serve w) r may = may
  give-one false (refuse status head_only close) r may = may

  expected-one : (q : Answer) (r : List ℕ) → MayBeExpected site_contents q r → r ≡ expected_to site_contents q
  expected-one q r may = give-one (is_for_script site_contents.scripts q) q r
      (subst (λ (o : Outcome). MayGive site_contents (is_for_script site_contents.scripts q) q o r)
      (find-one (outcome_of site_contents.finds q) may.0 may.1) may.2)

  -- the expected responses, joined
  abbrev all_expected : List Answer → List ℕ
  all_expected qs = concat (map (λ q. expected_to site_contents q) qs)

  all-one : (qs : List Answer) (rs : List (List ℕ)) → AllMayBeExpected site_contents qs rs → concat rs ≡ all_expected qs
  all-one [] [] all = refl
  all-one (q ∷ qs) (r ∷ rs) all = ap (λ (l : List ℕ). l ++ concat rs) (expected-one q r all.0)
      ∙ ap (λ (l : List ℕ). expected_to site_contents q ++ l) (all-one qs rs all.1)
  all-one [] (r ∷ rs) all = absurd all
  all-one (q ∷ qs) [] all = absurd all

  expected-append : (qs ps : List Answer) → all_expected (qs ++ ps) ≡ all_expected qs ++ all_expected ps
  expected-append [] ps = refl
  expected-append (q ∷ qs) ps = ap (λ (l : List ℕ). expected_to site_contents q ++ l) (expected-append qs ps)
      ∙ sym (append_assoc (expected_to site_contents q) (all_expected qs) (all_expected ps))

-- ---- the requests of a stream

module _ (one : OneAnswer) where
  next-one : (s : List ℕ) (q p : Answer) (rest last : List ℕ) → Next s q rest → Next s p last → (q ≡ p) × (rest ≡ last)
  next-one s q p rest last a b = by (window_in s) a b
    where
      by : (w : Window) → NextIn w s q rest → NextIn w s p last → (q ≡ p) × (rest ≡ last)
      by Wait a b = absurd a
      by (Head skip len) a b = (one _ q p a.0 b.0, a.1 ∙ sym b.1)
      by TooLarge a b = (a.0 ∙ sym b.0, a.1 ∙ sym b.1)

  waits-not : (s : List ℕ) (q : Answer) (rest : List ℕ) → window_in s ≡ Wait → Next s q rest → ⊥
  waits-not s q rest waits next = subst (λ (w : Window). NextIn w s q rest) waits next

  not-both : (q p : Answer) (b : Bool) → q ≡ p → (keeps q && b) ≡ true → not (keeps p) ≡ true → ⊥
  not-both q p b same order closes =
      by (keeps q) (and_parts (keeps q) b order).0 (ap (λ (a : Answer). not (keeps a)) same ∙ closes)
    where
      by : (k : Bool) → k ≡ true → not k ≡ true → ⊥
      by true is bad = absurd (cc (bad))
      by false is bad = absurd (cc (is))

  -- requests read from a stream are the first of all its requests; only the last of each list may close the connection
  are-first : (s : List ℕ) (qs ps : List Answer) (rest last : List ℕ) → Reads s qs rest → Reads s ps last
      → last_may_close qs ≡ true
      → last_may_close ps ≡ true → (window_in last ≡ Wait) ⊎ (last_closes ps ≡ true)
      → (more : List Answer) × (ps ≡ qs ++ more)
  are-first s [] ps rest last a b order orders ends = (ps, refl)
  are-first s (q ∷ qs) [] rest last a b order orders (inl waits) =
      absurd (waits-not s q a.0 (ap (λ (l : List ℕ). window_in l) (sym b) ∙ waits) a.1)
  are-first s (q ∷ qs) [] rest last a b order orders (inr closes) = absurd (cc (closes))
  are-first s (q ∷ []) (p ∷ ps) rest last a b order orders ends =
      let same = next-one s q p a.0 b.0 a.1 b.1 in
      (ps, ap (λ (x : Answer). x ∷ ps) (sym same.0))
  are-first s (q ∷ r ∷ qs) (p ∷ []) rest last a b order orders (inl waits) =
      let same = next-one s q p a.0 b.0 a.1 b.1 in
      absurd (waits-not a.0 r a.2.0 (ap (λ (l : List ℕ). window_in l) (same.1 ∙ sym b.2) ∙ waits) a.2.1)
  are-first s (q ∷ r ∷ qs) (p ∷ []) rest last a b order orders (inr closes) =
      absurd (not-both q p (last_may_close (r ∷ qs)) (next-one s q p a.0 b.0 a.1 b.1).0 order closes)
  are-first s (q ∷ r ∷ qs) (p ∷ t ∷ ps) rest last a b order orders ends =
      let same = next-one s q p a.0 b.0 a.1 b.1 in
      let more =
      are-first a.0 (r ∷ qs) (t ∷ ps) rest last a.2 (subst (λ (l : List ℕ). Reads l (t ∷ ps) last) (sym same.1) b.2)
      (and_parts (keeps q) (last_may_close (r ∷ qs)) order).1 (and_parts (keeps p) (last_may_close (t ∷ ps)) orders).1
      ends in
      (more.0, ap (λ (x : Answer). x ∷ t ∷ ps) (sym same.0) ∙ ap (λ (l : List Answer). q ∷ l) more.1)

  -- ---- one answer

  begins_one : (site_contents : SiteContents) (s bytes all : List ℕ) → RefusesNothing site_contents
      → Begins site_contents s bytes → IsAnswer site_contents s all
      → (more : List ℕ) × (all ≡ bytes ++ more)
  begins_one site_contents s bytes all none b a =
      let first = are-first s b.qs a.qs b.rest a.rest b.reads a.reads b.order a.order a.no_more in
      let whole : bytes ++ b.more ≡ all_expected site_contents none b.qs =
      sym b.all ∙ (b.responds.all ∙ all-one site_contents none b.qs b.responds.responses b.responds.each) in (
        b.more ++ all_expected site_contents none first.0,
        a.responds.all ∙ (all-one site_contents none a.qs a.responds.responses a.responds.each
            ∙ (ap (λ (l : List Answer). all_expected site_contents none l) first.1
            ∙ (expected-append site_contents none b.qs first.0
            ∙ (ap (λ (l : List ℕ). l ++ all_expected site_contents none first.0) (sym whole)
            ∙ append_assoc bytes b.more (all_expected site_contents none first.0))))),
      )

  begins-whole : (site_contents : SiteContents) (s bytes : List ℕ) → IsAnswer site_contents s bytes
      → Begins site_contents s bytes
  begins-whole site_contents s bytes a = record {
    qs = a.qs;
    rest = a.rest;
    reads = a.reads;
    order = a.order;
    whole = bytes;
    responds = a.responds;
    more = [];
    all = sym (append-nil bytes);
  }

  both-ways : (a b m n : List ℕ) → b ≡ a ++ m → a ≡ b ++ n → a ≡ b
  both-ways a b m [] one two = two ∙ append-nil b
  both-ways a b m (x ∷ n) one two =
      let there : length b ≡ length a + length m = ap (λ (l : List ℕ). length l) one ∙ length-append a m in
      let back : length a ≡ length b + length (x ∷ n) = ap (λ (l : List ℕ). length l) two ∙ length-append b (x ∷ n) in
      absurd (omega (arith, there, back))

  same_one : (site_contents : SiteContents) (s a b : List ℕ) → RefusesNothing site_contents → IsAnswer site_contents s a
      → IsAnswer site_contents s b → a ≡ b
  same_one site_contents s a b none is_a is_b =
      let there = begins_one site_contents s a b none (begins-whole site_contents s a is_a) is_b in
      let back = begins_one site_contents s b a none (begins-whole site_contents s b is_b) is_a in
      both-ways a b there.0 back.0 there.1 back.1

  pub one_answer : StreamsHaveOneAnswer
  one_answer = record {
    expected = λ site_contents q. expected-may site_contents q;
    one = λ site_contents q r none may. expected-one site_contents none q r may;
    begins = begins_one;
    same = same_one;
  }
