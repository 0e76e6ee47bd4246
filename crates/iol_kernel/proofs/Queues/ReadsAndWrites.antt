-- Writes to queues and reads from them, for each reading of places.
use Rattle.std.proofs.Common.{◌≡◌, ℕ, ◌+◌, ◌-◌, cond, List, [], ◌∷◌, ◌++◌, length, take, drop, ap, ◌∙◌, refl, sym}
use Rattle.std.proofs.Common.{arith, Option, Some, true, Bool}
use Rattle.std.specs.Prelude.{slice_set, ◌||◌, min}
use Rattle.std.specs.List.{prefix_len}
use Rattle.std.proofs.lemmas.Bool.Decides.{nat_tests}
use Rattle.iol_core.specs.Text.{Text, admitted}
use Rattle.iol_core.specs.State as machine
use Rattle.iol_core.specs.State.{State, Domain}
use Rattle.iol_core.specs.Calls.Aggregates as aggs
use Rattle.iol_core.specs.Calls.Reads as reading
use Rattle.iol_core.specs.declared.descriptors.Descriptor.TheVariants as on
use Rattle.iol_pool.specs.Pools.{Pool, names_in}
use Rattle.iol_hold.specs.StoreState.{Stored}
use Rattle.iol_hold.specs.Moves.{Shares}
use Rattle.iol_hold.specs.Places.{places, byte_len}
use Rattle.iol_hold.specs.Texts.{bufs_of}
use Rattle.iol_hold.specs.declared.slices.Slice.{Slice}
use Rattle.iol_hold.proofs.AtPlaces.{read_pushed}
use Rattle.iol_pipe.proofs.FrontBytes.{read_given, read_left}
use Rattle.iol_desc.specs.Tables.{agg_in}
use Rattle.iol_kernel.specs.Views.{Pipe, pipe_view, state_view}
use Rattle.iol_kernel.specs.KernelState.{KernelState, objects_of, queue_at, read_of}
use Rattle.iol_kernel.specs.Readings.{Reading, read, KeepsPools}
use Rattle.iol_kernel.proofs.State.Views.{with_pipe-view, with_agg-view}
use Rattle.iol_kernel.proofs.State.ReadOf.{may_read-read_of, text-read_of, length_text-read_of, pipe_at-read_of}
use Rattle.iol_kernel.proofs.State.ReadOf.{queue-read_of, length_queue-read_of}
use Rattle.iol_kernel.proofs.AggregateCalls.Slices.{slices_found}
use Rattle.iol_kernel.specs.NewAggregates.{TakesFront}

left_true : (a b : Bool) → a ≡ true → (a || b) ≡ true
left_true a b e = grind (arith, nat_tests, e)

right_true : (a b : Bool) → b ≡ true → (a || b) ≡ true
right_true a b e = grind (arith, nat_tests, e)

-- Writing: the queue gets the bytes that fit.

abbrev pub after_push : (p n d a : ℕ) → State → State
after_push p n d a s =
    machine.with_pipe s p
    (record (machine.pipe_at s p) { queue = (machine.pipe_at s p).queue ++ take n (machine.text s d a) })

module _ (h : KernelState) (t : Stored) (qs : List (Option (Pipe (List Slice)))) (p n d a : ℕ) (from : List Slice)
    (writing : (queue_at h.pipes p).writing ≡ true) (found : Some from ≡ agg_in h.domains d a)
    (places' : places (queue_at qs p).queue ≡ places (queue_at h.pipes p).queue ++ take n (places from))
    (pipes' : qs ≡ slice_set h.pipes p (Some (record (queue_at h.pipes p) { queue = (queue_at qs p).queue })))
    (shares : Shares h.store t (bufs_of (queue_at h.pipes p).queue) (bufs_of (queue_at qs p).queue)) where
  pub pushed-read : (f : Reading) → read_of f (record h { store = t; pipes = qs }) ≡ after_push p n d a (read_of f h)
  unfolding read_of
  pushed-read f =
      let m : State = read_of f h in
      let x : Pipe (List Slice) = record (queue_at h.pipes p) { queue = (queue_at qs p).queue } in
      let q : read f (queue_at qs p).queue ≡ (machine.pipe_at m p).queue ++ take n (machine.text m d a) =
      read_pushed f.at (queue_at qs p).queue (queue_at h.pipes p).queue from n places'
      ∙ ap (λ (t : Text). t ++ take n (read f from)) (sym (queue-read_of f h p))
      ∙ ap (λ (t : Text). (machine.pipe_at m p).queue ++ take n t) (ap (read f) (slices_found h.domains d a from found)
      ∙ sym (text-read_of f h d a)) in
      ap (λ (ps : List Pool). state_view f h.domains ps (record (objects_of h) { pipes = qs })) shares.pools
      ∙ ap (λ (ys : List (Option (Pipe (List Slice)))). state_view f h.domains h.store.pools
      (record (objects_of h) { pipes = ys })) pipes'
      ∙ with_pipe-view f h.domains h.store.pools (objects_of h) p x (right_true x.reading x.writing writing)
      ∙ ap (λ (t : Text). machine.with_pipe m p (record (pipe_view (read f) (queue_at h.pipes p)) { queue = t })) q
      ∙ ap
      (λ (y : machine.Pipe). machine.with_pipe m p
      (record y { queue = (machine.pipe_at m p).queue ++ take n (machine.text m d a) }))
      (sym (pipe_at-read_of f h p))

-- Reading: a domain gets the front.

pub admitted-same : (f g : ℕ → Bool) (t : Text) → ((p : ℕ) → f p ≡ g p) → admitted f t ≡ admitted g t
admitted-same f g t same = ap (λ n. take n t) (prefix t)
  where
    prefix : (xs : Text) → prefix_len (λ b. f b.1) xs ≡ prefix_len (λ b. g b.1) xs
    prefix [] = refl
    prefix (x ∷ xs) = ap (λ b. cond b (1 + prefix_len (λ b. f b.1) xs) 0) (same x.1)
        ∙ ap (λ n. cond (g x.1) (1 + n) 0) (prefix xs)

abbrev pub after_take : (p d n : ℕ) → State → State
after_take p d n s =
    aggs.with_agg (reading.read_on s d 0 (Some (on.ReadEnd p)) (length (reading.read_text s d (Some (on.ReadEnd p)) n)))
    d (reading.read_text s d (Some (on.ReadEnd p)) n)

module _ (h : KernelState) (t : Stored) (ds : List (Domain (List Slice))) (qs : List (Option (Pipe (List Slice))))
    (p d n : ℕ) (reading' : (queue_at h.pipes p).reading ≡ true)
    (takes : TakesFront h.store t (queue_at h.pipes p).queue (queue_at qs p).queue h.domains ds d n)
    (pipes' : qs ≡ slice_set h.pipes p (Some (record (queue_at h.pipes p) { queue = (queue_at qs p).queue }))) where
  pub taken-read : (f : Reading) → KeepsPools f → read_of f (record h { store = t; domains = ds; pipes = qs })
      ≡ after_take p d n (read_of f h)
  unfolding read_of
  taken-read f keeps =
      let m : State = read_of f h in
      let x : Pipe (List Slice) = record (queue_at h.pipes p) { queue = (queue_at qs p).queue } in
      let less : List (Option (Pipe (List Slice))) = slice_set h.pipes p (Some x) in
      let u : Text = admitted (machine.may_read m d) (take n (machine.pipe_at m p).queue) in
      let first : read f takes.slices ≡ u =
      read_given f.at keeps takes.slices (queue_at h.pipes p).queue h.store.pools d n takes.given
      ∙ admitted-same (λ q. names_in h.store.pools q d) (machine.may_read m d)
      (take n (read f (queue_at h.pipes p).queue)) (λ q. sym (may_read-read_of f h d q))
      ∙ ap (λ (q : Text). admitted (machine.may_read m d) (take n q)) (sym (queue-read_of f h p)) in
      let left : read f (queue_at qs p).queue ≡ drop (length u) (machine.pipe_at m p).queue =
      read_left f.at keeps takes.slices (queue_at qs p).queue (queue_at h.pipes p).queue h.store.pools d n takes.given
      takes.left
      ∙ ap (λ (v : Text). drop (length v) (read f (queue_at h.pipes p).queue))
      (sym (read_given f.at keeps takes.slices (queue_at h.pipes p).queue h.store.pools d n takes.given) ∙ first)
      ∙ ap (λ (q : Text). drop (length u) q) (sym (queue-read_of f h p)) in
      ap (λ (ps : List Pool). state_view f ds ps (record (objects_of h) { pipes = qs })) takes.shares.pools
      ∙ ap (λ (ys : List (Option (Pipe (List Slice)))). state_view f ds h.store.pools
      (record (objects_of h) { pipes = ys })) pipes'
      ∙ ap (λ (ys : List (Domain (List Slice))). state_view f ys h.store.pools (record (objects_of h) { pipes = less }))
      takes.added
      ∙ with_agg-view f h.domains h.store.pools (record (objects_of h) { pipes = less }) d takes.slices
      ∙ ap (λ (s : State). aggs.with_agg s d (read f takes.slices))
      (with_pipe-view f h.domains h.store.pools (objects_of h) p x (left_true x.reading x.writing reading'))
      ∙ ap (λ (v : Text). aggs.with_agg (machine.with_pipe m p (pipe_view (read f) x)) d v) first
      ∙ ap
      (λ (v : Text). aggs.with_agg
      (machine.with_pipe m p (record (pipe_view (read f) (queue_at h.pipes p)) { queue = v })) d u) left
      ∙ ap
      (λ (y : machine.Pipe). aggs.with_agg
      (machine.with_pipe m p (record y { queue = drop (length u) (machine.pipe_at m p).queue })) d u)
      (sym (pipe_at-read_of f h p))

-- how many bytes of an aggregate fit
pub fits : (f : Reading) (h : KernelState) (p d a : ℕ) (xs : List Slice) (n : ℕ) → Some xs ≡ agg_in h.domains d a
    → n ≡ min (byte_len xs) (65536 - byte_len (queue_at h.pipes p).queue)
    → n ≡ min (length (machine.text (read_of f h) d a)) (65536 - length (machine.pipe_at (read_of f h) p).queue)
fits f h p d a xs n found is =
    is
    ∙ ap (λ k. min k (65536 - byte_len (queue_at h.pipes p).queue)) (ap byte_len (slices_found h.domains d a xs found)
    ∙ sym (length_text-read_of f h d a))
    ∙ ap (λ k. min (length (machine.text (read_of f h) d a)) (65536 - k)) (sym (length_queue-read_of f h p))
