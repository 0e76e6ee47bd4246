-- The answers to a client that has several connections, one after another.
use Rattle.std.specs.Prelude.{◌≡◌, ◌⊎◌, ℕ, List, [], ◌∷◌, ◌++◌, map, ⊤}
use Rattle.std.specs.List.{AllByRecursion, concat}
use Rattle.flash_http.specs.declared.windows.Window.TheVariants.{Wait}
use Rattle.flash_http.specs.Window.{window_in}
use Rattle.flash_laws.specs.SiteContents.{Begins, IsAnswer, SiteContents}
use Rattle.flash_streams.specs.Follow.{IsAnsweredWhole}
use Rattle.flash_clients.specs.Requests.{AreKept, Closes}

-- ---- the client

-- A connection of a client: the contents of the site that served it, the bytes that it received, and those sent on it.
pub record Visit : Type 0 where
  pub site_contents : SiteContents
  pub came : List ℕ
  pub sent : List ℕ

-- The connection received whole requests that keep it, and has its answer.
pub record IsLeft (v : Visit) : Type 0 where
  pub kept : AreKept v.came
  pub answered : IsAnswer v.site_contents v.came v.sent

-- a request closed the connection, which has its answer
pub record IsClosed (v : Visit) : Type 0 where
  pub close : Closes v.came
  pub answered : IsAnswer v.site_contents v.came v.sent

-- Each connection except the last was left, and the bytes sent on the last begin its answer.
abbrev pub AreVisits : List Visit → Type 0
AreVisits [] = ⊤
AreVisits (v ∷ []) = Begins v.site_contents v.came v.sent
AreVisits (v ∷ w ∷ vs) = IsLeft v × AreVisits (w ∷ vs)

-- The socket of a client with these connections supplied and accepted these bytes: the bytes supplied were received on
-- them, in order, except for bytes that wait; the bytes accepted were sent on them, in order, and some bytes are not
-- accepted yet.
pub record IsServed (vs : List Visit) (supplied accepted : List ℕ) : Type 0 where
  pub visits : AreVisits vs
  pub waiting : List ℕ
  pub received : supplied ≡ concat (map (λ v. v.came) vs) ++ waiting
  pub unsent : List ℕ
  pub produced : concat (map (λ v. v.sent) vs) ≡ accepted ++ unsent

-- The last connection was left and no whole request waits, or a request closed it.
abbrev pub EndsWell : (waiting : List ℕ) → List Visit → Type 0
EndsWell waiting [] = window_in waiting ≡ Wait
EndsWell waiting (v ∷ []) = (IsLeft v × (window_in waiting ≡ Wait)) ⊎ IsClosed v
EndsWell waiting (v ∷ w ∷ vs) = EndsWell waiting (w ∷ vs)

-- Such a client ended well, and its socket accepted all.
pub record IsServedWhole (vs : List Visit) (supplied accepted : List ℕ) : Type 0 where
  pub served : IsServed vs supplied accepted
  pub all : served.unsent ≡ []
  pub ends : EndsWell served.waiting vs

-- ---- the answers of several sites

-- The bytes are in two parts: an answer to whole requests at the front of the stream, and bytes for the rest of it.
pub record Splits (site_contents : SiteContents) (Rest : (s bytes : List ℕ) → Type 0) (s bytes : List ℕ) : Type 0 where
  pub front : List ℕ
  pub back : List ℕ
  pub stream : s ≡ front ++ back
  pub first : List ℕ
  pub next : List ℕ
  pub parts : bytes ≡ first ++ next
  pub whole : IsAnsweredWhole site_contents front first
  pub rest : Rest back next

-- The stream is answered by these sites in turn: by each except the last, whole requests have their whole responses.
abbrev pub InTurn : (Last : SiteContents → (s bytes : List ℕ) → Type 0) → List SiteContents → (s bytes : List ℕ)
    → Type 0
InTurn Last [] s bytes = bytes ≡ []
InTurn Last (x ∷ []) s bytes = Last x s bytes
InTurn Last (x ∷ y ∷ xs) s bytes = Splits x (λ t more. InTurn Last (y ∷ xs) t more) s bytes

-- the bytes are a prefix of such
pub record BeginsInTurn (sites : List SiteContents) (s bytes : List ℕ) : Type 0 where
  pub more : List ℕ
  pub begins : InTurn Begins sites s (bytes ++ more)

-- ---- the law

-- The bytes that a client's socket accepted are a prefix of an answer to those that it supplied, and are an answer if
-- it ended well.
pub record ClientsGetAnswers : Type 0 where
  -- if one site served all its connections
  pub begins : (site_contents : SiteContents) (vs : List Visit) (supplied accepted : List ℕ)
      → AllByRecursion (λ v. v.site_contents ≡ site_contents) vs
      → IsServed vs supplied accepted → Begins site_contents supplied accepted
  pub whole : (site_contents : SiteContents) (vs : List Visit) (supplied accepted : List ℕ)
      → AllByRecursion (λ v. v.site_contents ≡ site_contents) vs
      → IsServedWhole vs supplied accepted → IsAnswer site_contents supplied accepted
  -- if several did: an answer by the sites of its connections in turn
  pub begins_in_turn : (vs : List Visit) (supplied accepted : List ℕ) → IsServed vs supplied accepted
      → BeginsInTurn (map (λ v. v.site_contents) vs) supplied accepted
  pub whole_in_turn : (vs : List Visit) (supplied accepted : List ℕ) → IsServedWhole vs supplied accepted
      → InTurn IsAnswer (map (λ v. v.site_contents) vs) supplied accepted
  -- a site that comes twice in a row counts once
  pub begins_once : (x : SiteContents) (xs : List SiteContents) (s bytes : List ℕ) → InTurn Begins (x ∷ x ∷ xs) s bytes
      → InTurn Begins (x ∷ xs) s bytes
  pub whole_once : (x : SiteContents) (xs : List SiteContents) (s bytes : List ℕ) → InTurn IsAnswer (x ∷ x ∷ xs) s bytes
      → InTurn IsAnswer (x ∷ xs) s bytes
