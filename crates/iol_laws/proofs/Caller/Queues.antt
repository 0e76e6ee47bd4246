-- Reading and writing a queue, of a pipe or of a connection.
use Rattle.std.proofs.Common.{◌≡◌, ℕ, ◌==◌, ◌<◌, ◌≤◌, List, [], ◌++◌, length, take, drop, ap, ◌∙◌, sym, arith, Option}
use Rattle.std.proofs.Common.{None, false, Bool}
use Rattle.std.specs.Prelude.{min, nat_lt, option_map, ◌&&◌}
use Rattle.iol_core.specs.Text.{Text, admitted, barred, bytes_of, labelled}
use Rattle.iol_core.specs.State.{State, descriptor, text}
use Rattle.iol_core.specs.Meaning.{first}
use Rattle.iol_core.specs.Run.{StepsTo}
use Rattle.iol_core.specs.Calls.Reads as reading
use Rattle.iol_core.specs.Calls.Writes as writing
use Rattle.iol_core.specs.declared.refusals.Refusal.TheVariants as refuse
use Rattle.iol_core.specs.declared.descriptors.Descriptor.{Descriptor}
use Rattle.iol_core.specs.declared.events.Call.TheVariants as call
use Rattle.iol_core.specs.declared.events.Event.TheVariants as event
use Rattle.iol_core.specs.declared.events.Reply.TheVariants as reply
use Rattle.iol_core.proofs.TestedLists.{passed, when-none}
use Rattle.iol_laws.proofs.StreamEnd.{none-admitted, none-comes}
use Rattle.iol_laws.proofs.Numbers.{number}
use Rattle.iol_laws.proofs.Texts.{admitted-rest, bytes-take, length-bytes}

abbrev pub front : (may : ℕ → Bool) (n : ℕ) → Text → Text
front may n q = admitted may (take n q)

-- the admitted prefix is taken off; if it is empty, so is the queue, and no more bytes can come
pub record TakesFront (may : ℕ → Bool) (n : ℕ) (q : Text) (more : Bool) : Type 0 where
  pub was : q ≡ front may n q ++ drop (length (front may n q)) q
  pub ended : 0 < n → front may n q ≡ [] → (q ≡ []) × (more ≡ false)

pub takes_front : (may : ℕ → Bool) (n : ℕ) (q : Text) (more : Bool)
    → option_map refuse.Denied (barred may (take (min n 1) q)) ≡ None → (nat_lt 0 n && (length q == 0) && more) ≡ false
    → TakesFront may n q more
takes_front may n q more free still =
    record {
      was = admitted-rest may n q;
      ended =
          λ some none. (let gone = none-admitted may n q some free none in (gone, none-comes n q more some gone still));
    }

-- the tests that a successful read passed, for the object of its descriptor
module _ (s : State) (d fd n : ℕ) (o : Option Descriptor) (is : descriptor s d fd ≡ o) where
  pub read_passes : first (reading.iol_read s d fd n).refusals ≡ None → (reading.read_denied s d o n ≡ None)
      × (reading.must_wait s o n ≡ false)
  read_passes none = (
    sym (ap (λ x. reading.read_denied s d x n) is) ∙ passed (reading.iol_read s d fd n).refusals 4 none,
    sym (ap (λ x. reading.must_wait s x n) is) ∙ when-none refuse.WouldBlock (reading.must_wait s (descriptor s d fd) n)
        (passed (reading.iol_read s d fd n).refusals 5 none),
  )

  pub copy_passes : first (reading.read s d fd n).refusals ≡ None → (reading.read_denied s d o n ≡ None)
      × (reading.must_wait s o n ≡ false)
  copy_passes none = (
    sym (ap (λ x. reading.read_denied s d x n) is) ∙ passed (reading.read s d fd n).refusals 3 none,
    sym (ap (λ x. reading.must_wait s x n) is) ∙ when-none refuse.WouldBlock (reading.must_wait s (descriptor s d fd) n)
        (passed (reading.read s d fd n).refusals 4 none),
  )

-- x is the first k of these bytes, as many as fit
pub record FitsIn (bytes : List ℕ) (free k : ℕ) (x : Text) : Type 0 where
  pub within : k ≤ length bytes
  pub most : k ≡ min (length bytes) free
  pub text_is : bytes_of x ≡ take k bytes

pub fits_in : (w : Text) (bytes : List ℕ) (free k : ℕ) → bytes_of w ≡ bytes → k ≡ min (length w) free
    → FitsIn bytes free k (take k w)
fits_in w bytes free k is most =
    let same : length w ≡ length bytes =
    (let l : length (bytes_of w) ≡ length w = length-bytes w in sym l ∙ ap (λ (l : List ℕ). length l) is) in
    record {
      within = omega (arith, most, same);
      most = most ∙ ap (λ z. min z free) same;
      text_is = bytes-take k w ∙ ap (λ (l : List ℕ). take k l) is;
    }

-- the effect of a successful write, for the object of its descriptor
module _ (s t : State) (d fd k : ℕ) (o : Option Descriptor) (is : descriptor s d fd ≡ o) where
  pub wrote_agg : (a : ℕ) → StepsTo s (event.Call d (call.IolWrite fd a)) (reply.Count k) t
      → (k ≡ writing.fitting s o (length (text s d a))) × (t ≡ writing.written s d fd o (take k (text s d a)))
      × (writing.is_broken s o ≡ false)
  wrote_agg a step =
      let w : Text = text s d a in
      let k_is : k ≡ writing.fitting s o (length w) = ap number step.1 ∙ ap (λ x. writing.fitting s x (length w)) is in (
        k_is,
        step.2 ∙ (ap (λ x. writing.written s d fd x (take (writing.fitting s x (length w)) w)) is
            ∙ ap (λ n. writing.written s d fd o (take n w)) (sym k_is)),
        sym (ap (λ x. writing.is_broken s x) is) ∙ when-none refuse.BrokenPipe (writing.is_broken s (descriptor s d fd))
            (passed (writing.iol_write s d fd a).refusals 5 step.0),
      )

  pub wrote_bytes : (bytes : List ℕ) → StepsTo s (event.Call d (call.Write fd bytes)) (reply.Count k) t
      → (k ≡ writing.fitting s o (length bytes))
      × (t ≡ writing.written s d fd o (labelled (writing.pool_for s d o) (take k bytes)))
      × (writing.is_broken s o ≡ false)
  wrote_bytes bytes step =
      let k_is : k ≡ writing.fitting s o (length bytes) = ap number step.1
      ∙ ap (λ x. writing.fitting s x (length bytes)) is in (
        k_is,
        step.2
            ∙ (ap
            (λ x. writing.written s d fd x
            (labelled (writing.pool_for s d x) (take (writing.fitting s x (length bytes)) bytes))) is
            ∙ ap (λ n. writing.written s d fd o (labelled (writing.pool_for s d o) (take n bytes))) (sym k_is)),
        sym (ap (λ x. writing.is_broken s x) is) ∙ when-none refuse.BrokenPipe (writing.is_broken s (descriptor s d fd))
            (passed (writing.write s d fd bytes).refusals 6 step.0),
      )
