-- Successive streams of requests on one connection, or on several.
use Rattle.std.specs.Prelude.{ℕ, List, [], ◌++◌, IsTrue}
use Rattle.std.specs.List.{list_all}
use Rattle.flash_http.specs.Request.{Answer}
use Rattle.flash_laws.specs.Answers.{keeps, Reads}
use Rattle.flash_laws.specs.SiteContents.{Begins, IsAnswer, Responds, SiteContents}

-- This stream consists of whole requests, none of which closes the connection, and these bytes are possible responses
-- to them, in order.
pub record IsAnsweredWhole (site_contents : SiteContents) (s bytes : List ℕ) : Type 0 where
  pub qs : List Answer
  pub reads : Reads s qs []
  pub keep : IsTrue (list_all (λ q. keeps q) qs)
  pub responds : Responds site_contents qs bytes

-- After such a stream and its answer, the answer continues with that of the remaining stream by itself.
pub record StreamsFollow : Type 0 where
  -- an answer
  pub answer : (site_contents : SiteContents) (a b first next : List ℕ) → IsAnsweredWhole site_contents a first → IsAnswer site_contents b next → IsAnswer site_contents (a ++ b) (first ++ next)
  -- the beginning of one
  pub begins : (site_contents : SiteContents) (a b first next : List ℕ) → IsAnsweredWhole site_contents a first
      → Begins site_contents b next → Begins site_contents (a ++ b) (first ++ next)
  -- a stream of whole requests
  pub whole : (site_contents : SiteContents) (a b first next : List ℕ) → IsAnsweredWhole site_contents a first
      → IsAnsweredWhole site_contents b next
      → IsAnsweredWhole site_contents (a ++ b) (first ++ next)
  -- such responses are an answer
  pub is : (site_contents : SiteContents) (a first : List ℕ) → IsAnsweredWhole site_contents a first
      → IsAnswer site_contents a first
