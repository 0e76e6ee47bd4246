-- The requests that are handed in on a connection, one after another.
use Rattle.std.specs.Prelude.{◌≡◌, ℕ, ◌+◌, true, false, List, [], ◌++◌, take, drop, IsTrue, IsFalse}
use Rattle.std.specs.List.{list_all}
use Rattle.flash_http.specs.declared.windows.Window.{Window}
use Rattle.flash_http.specs.declared.windows.Window.TheVariants.{Wait, Head, TooLarge}
use Rattle.flash_http.specs.declared.windows.TheConstants.{MAX_HEAD_BYTES}
use Rattle.flash_http.specs.Request.{Answer, IsAnswerTo, refuse}
use Rattle.flash_http.specs.Window.{window_in}
use Rattle.flash_laws.specs.Answers.{keeps, Reads}

-- The stream consists of whole requests, none of which closes the connection.
pub record AreKept (s : List ℕ) : Type 0 where
  pub qs : List Answer
  pub reads : Reads s qs []
  pub keep : IsTrue (list_all (λ q. keeps q) qs)

-- One of the requests of the stream closes the connection.
pub record Closes (s : List ℕ) : Type 0 where
  pub qs : List Answer
  pub rest : List ℕ
  pub reads : Reads s qs rest
  pub close : IsFalse (list_all (λ q. keeps q) qs)

-- By the window of these bytes, their first request is the first `size` bytes, with the empty lines before it, and this
-- is its answer. If the head is too long, the request is the bytes of a whole window.
abbrev pub IsFirst : Window → List ℕ → (size : ℕ) → Answer → Type 0
IsFirst Wait s size q = ⊥
IsFirst (Head skip len) s size q = IsAnswerTo (take len (drop skip s)) q × (size ≡ skip + len)
IsFirst TooLarge s size q = (q ≡ refuse 431 false true) × (size ≡ MAX_HEAD_BYTES)

-- After whole requests that keep the connection, the first request of the bytes that wait is handed in.
pub record RequestsAreKept : Type 0 where
  pub none : AreKept []
  -- it keeps the connection, too
  pub keep : (came waiting : List ℕ) (size : ℕ) (q : Answer) → AreKept came → IsFirst (window_in waiting) waiting size q
      → IsTrue (keeps q) → AreKept (came ++ take size waiting)
  -- it closes the connection
  pub close : (came waiting : List ℕ) (size : ℕ) (q : Answer) → AreKept came
      → IsFirst (window_in waiting) waiting size q
      → IsFalse (keeps q) → Closes (came ++ take size waiting)
