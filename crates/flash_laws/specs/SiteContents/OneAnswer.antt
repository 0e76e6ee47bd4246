-- Without refusals, a request has one response, and a stream has one answer.
use Rattle.std.specs.Prelude.{◌≡◌, ℕ, List, ◌++◌, IsFalse}
use Rattle.iol_core.specs.declared.refusals.Refusal.{Refusal}
use Rattle.flash_http.specs.Request.{Answer}
use Rattle.flash_laws.specs.SiteContents.{SiteContents, expected_to, MayBeExpected, Begins, IsAnswer}

-- nothing is refused
abbrev pub RefusesNothing : SiteContents → Type 0
RefusesNothing site_contents = (x : Refusal) → IsFalse (site_contents.refuses.of_server x)
    × IsFalse (site_contents.refuses.of_workers x)

pub record StreamsHaveOneAnswer : Type 0 where
  -- The response by the current files is possible, whatever is refused.
  pub expected : (site_contents : SiteContents) (q : Answer)
      → MayBeExpected site_contents q (expected_to site_contents q)
  -- If nothing is refused, it is the only one.
  pub one : (site_contents : SiteContents) (q : Answer) (r : List ℕ) → RefusesNothing site_contents → MayBeExpected site_contents q r → r ≡ expected_to site_contents q
  -- Then bytes that begin an answer to a stream begin each answer to it, and a stream has one answer.
  pub begins : (site_contents : SiteContents) (s bytes all : List ℕ) → RefusesNothing site_contents
      → Begins site_contents s bytes → IsAnswer site_contents s all
      → (more : List ℕ) × (all ≡ bytes ++ more)
  pub same : (site_contents : SiteContents) (s a b : List ℕ) → RefusesNothing site_contents → IsAnswer site_contents s a
      → IsAnswer site_contents s b → a ≡ b
