-- The slices of a buffer, counted over all holders, when a table changes.
use Rattle.std.proofs.Common.{◌≡◌, ℕ, suc, ◌+◌, ◌-◌, ◌*◌, ◌<◌, ◌≤◌, ◌^◌, List, [], ◌∷◌, ◌++◌, length, ap, ◌∙◌, refl}
use Rattle.std.specs.List.{AllByRecursion}
use Rattle.std.proofs.Common.{arith, Option, Some, None, inl, inr, get_or, true, false}
use Rattle.std.specs.Prelude.{slice_set, sum_by, unwrap_or}
use Rattle.std.proofs.lemmas.Bool.{cases_lt, cases_eq}
use Rattle.std.proofs.lemmas.Bool.Decides.{nat_tests}
use Rattle.std.proofs.lemmas.List.Sums.{sum_by-set, sum_by_push, sum_by-cons, get_or-le-sum_by}
use Rattle.iol_core.specs.NumberedLists.{lookup, without, numbered_or, with_numbered, placed, lowest, in_place}
use Rattle.iol_core.specs.State.{Domain, no_domain}
use Rattle.iol_core.specs.declared.numbers.BufId.{BufId}
use Rattle.iol_hold.specs.StoreState.{Stored}
use Rattle.iol_hold.specs.Moves.{tally, Covers, IsCountable}
use Rattle.iol_hold.specs.Places.{byte_len}
use Rattle.iol_hold.specs.Texts.{bufs_of}
use Rattle.iol_hold.specs.declared.slices.Slice.{Slice}
use Rattle.iol_desc.specs.Tables.{domain_in, with_domain_in, agg_in, with_agg_in, without_agg_in, live_aggs_in}
use Rattle.iol_sock.specs.Connections.{Conn}
use Rattle.iol_kernel.specs.Views.{Pipe, Objects}
use Rattle.iol_kernel.specs.HoldCounts.{uses, domain_uses, pipe_uses, conn_uses, all_uses, IsCounted}
use Rattle.iol_kernel.specs.KernelState.{IsLimited, IsShort, IsConn, queue_at}
use Rattle.iol_kernel.proofs.State.Rows.{live_numbered}
use Rattle.iol_kernel.proofs.State.Slots.{uses_few, files_few}
use Rattle.iol_core.specs.declared.limits.TheConstants.{MAX_AGGREGATE_BYTES, MAX_QUEUE_BYTES}

abbrev pub Domains : Type 0
Domains = List (Domain (List Slice))

abbrev pub Pipes : Type 0
Pipes = List (Option (Pipe (List Slice)))

-- Of one domain's aggregates.

pub uses-without : (b : BufId) (es : List (ℕ × List Slice)) (a : ℕ) (xs : List Slice) → Some xs ≡ lookup es a
    → sum_by (λ e. uses b e.1) (without es a) + uses b xs ≡ sum_by (λ e. uses b e.1) es
uses-without b [] a xs is = absurd cc
uses-without b (e ∷ es) a xs is = elim (cases_eq e.0 a) [
  | inl k ↦ (let f : Some xs ≡ Some e.1 = is ∙ grind (arith, nat_tests, k) in
      let w : without (e ∷ es) a ≡ es = grind (arith, nat_tests, k) in
      let c = sum_by-cons (λ (e : ℕ × List Slice). uses b e.1) e es in
      let u = ap (λ (l : List (ℕ × List Slice)). sum_by (λ e. uses b e.1) l) w in
      let v = ap (uses b) (some_is xs e.1 f) in
      omega (arith, c, u, v))
  | inr k ↦ (let r = uses-without b es a xs (is ∙ grind (arith, nat_tests, k)) in
      let w : without (e ∷ es) a ≡ e ∷ without es a = grind (arith, nat_tests, k) in
      let c = sum_by-cons (λ (e : ℕ × List Slice). uses b e.1) e es in
      let d = sum_by-cons (λ (e : ℕ × List Slice). uses b e.1) e (without es a) in
      let u = ap (λ (l : List (ℕ × List Slice)). sum_by (λ e. uses b e.1) l) w in
      omega (arith, r, c, d, u))
]
  where
    some_is : (x y : List Slice) → Some x ≡ Some y → x ≡ y
    some_is x y e = cc

pub length-without : (es : List (ℕ × List Slice)) (a : ℕ) (xs : List Slice) → Some xs ≡ lookup es a
    → length (without es a) + 1 ≡ length es
length-without [] a xs is = absurd cc
length-without (e ∷ es) a xs is = elim (cases_eq e.0 a) [
  | inl k ↦ (let w : without (e ∷ es) a ≡ es = grind (arith, nat_tests, k) in let u = ap length w in omega (arith, u))
  | inr k ↦ (let r = length-without es a xs (is ∙ grind (arith, nat_tests, k)) in
      let w : without (e ∷ es) a ≡ e ∷ without es a = grind (arith, nat_tests, k) in let u = ap length w in
      omega (arith, r, u))
]

-- Of a live domain.

changed_sum : (w : Domain (List Slice) → ℕ) (ds : Domains) (d : ℕ) (x : Domain (List Slice)) → 0 < d → d ≤ length ds
    → sum_by w (with_domain_in ds d x) + w (domain_in ds d) ≡ sum_by w ds + w x
unfolding domain_in with_domain_in
changed_sum w ds d x lo hi =
    let e = sum_by-set w ds (d - 1) x no_domain (omega arith) in
    let f : with_numbered ds d x ≡ slice_set ds (d - 1) x = grind (arith, nat_tests, lo) in
    let g : numbered_or ds d no_domain ≡ get_or ds (d - 1) no_domain = grind (arith, nat_tests, lo) in
    omega (arith, e, ap (sum_by w) f, ap w g)

one_of_all : (w : Domain (List Slice) → ℕ) (ds : Domains) (d : ℕ) → 0 < d → d ≤ length ds
    → w (domain_in ds d) ≤ sum_by w ds
unfolding domain_in
one_of_all w ds d lo hi =
    let e = get_or-le-sum_by w ds (d - 1) no_domain (omega arith) in
    let g : numbered_or ds d no_domain ≡ get_or ds (d - 1) no_domain = grind (arith, nat_tests, lo) in
    omega (arith, e, ap w g)

-- a sum over domains, of which one changes
pub sum-with_domain : (w : Domain (List Slice) → ℕ) (ds : Domains) (d : ℕ) (x : Domain (List Slice))
    → (domain_in ds d).live ≡ true → sum_by w (with_domain_in ds d x) + w (domain_in ds d) ≡ sum_by w ds + w x
sum-with_domain w ds d x live = let n = live_numbered ds d live in changed_sum w ds d x n.0 n.1

-- a domain has no more than all
pub domain_le : (w : Domain (List Slice) → ℕ) (ds : Domains) (d : ℕ) → (domain_in ds d).live ≡ true
    → w (domain_in ds d) ≤ sum_by w ds
domain_le w ds d live = let n = live_numbered ds d live in one_of_all w ds d n.0 n.1

-- Of all holders, when a table changes.

pub uses-with_agg : (b : BufId) (ds : Domains) (d : ℕ) (xs : List Slice) → (domain_in ds d).live ≡ true
    → sum_by (domain_uses b) (with_agg_in ds d xs) ≡ sum_by (domain_uses b) ds + uses b xs
uses-with_agg b ds d xs live =
    let x = domain_in ds d in
    let e =
    sum-with_domain (domain_uses b) ds d (record x {
      aggs = x.aggs ++ (x.next_agg, xs) ∷ [];
      next_agg =
          x.next_agg + 1;
    }) live in
    let f = sum_by_push (λ (e : ℕ × List Slice). uses b e.1) x.aggs (x.next_agg, xs) in
    omega (arith, e, f)

pub uses-without_agg : (b : BufId) (ds : Domains) (d a : ℕ) (xs : List Slice) → (domain_in ds d).live ≡ true
    → Some xs ≡ agg_in ds d a → sum_by (domain_uses b) (without_agg_in ds d a) + uses b xs ≡ sum_by (domain_uses b) ds
uses-without_agg b ds d a xs live is =
    let x = domain_in ds d in
    let e = sum-with_domain (domain_uses b) ds d (record x { aggs = without x.aggs a }) live in
    let f = uses-without b x.aggs a xs is in
    omega (arith, e, f)

-- a domain whose aggregates stay
pub uses-same : (b : BufId) (ds : Domains) (d : ℕ) (x : Domain (List Slice)) → (domain_in ds d).live ≡ true
    → x.aggs ≡ (domain_in ds d).aggs → sum_by (domain_uses b) (with_domain_in ds d x) ≡ sum_by (domain_uses b) ds
uses-same b ds d x live is =
    let e = sum-with_domain (domain_uses b) ds d x live in
    let f = ap (λ (l : List (ℕ × List Slice)). sum_by (λ e. uses b e.1) l) is in
    omega (arith, e, f)

lowest_none : (xs : Pipes) → lowest xs < length xs → get_or xs (lowest xs) None ≡ None
lowest_none [] h = refl
lowest_none (None ∷ xs) h = refl
lowest_none (Some x ∷ xs) h = let one : lowest (Some x ∷ xs) ≡ suc (lowest xs) = omega arith in
    rw one (lowest_none xs (omega (arith, h)))

pub uses-placed : (b : BufId) (qs : Pipes) (x : Pipe (List Slice))
    → sum_by (pipe_uses b) (placed qs (lowest qs) x) ≡ sum_by (pipe_uses b) qs + uses b x.queue
uses-placed b qs x = elim (cases_lt (lowest qs) (length qs)) [
  | inl k ↦ (let none : Option (Pipe (List Slice)) = None in
      let e = sum_by-set (pipe_uses b) qs (lowest qs) (Some x) none k in
      let p : placed qs (lowest qs) x ≡ slice_set qs (lowest qs) (Some x) = grind (arith, nat_tests, k) in
      let f = ap (pipe_uses b) (lowest_none qs k) in
      omega (arith, e, ap (sum_by (pipe_uses b)) p, f))
  | inr k ↦ (let p : placed qs (lowest qs) x ≡ qs ++ Some x ∷ [] = grind (arith, nat_tests, k) in
      let e = sum_by_push (pipe_uses b) qs (Some x) in
      omega (arith, e, ap (sum_by (pipe_uses b)) p))
]

pub uses_at : (b : BufId) (qs : Pipes) (p : ℕ) → pipe_uses b (in_place qs p) ≡ uses b (queue_at qs p).queue
unfolding tally
uses_at b qs p = of (in_place qs p)
  where
    of : (o : Option (Pipe (List Slice)))
        → pipe_uses b o ≡ uses b (unwrap_or o (record { queue = []; reading = false; writing = false })).queue
    of None = refl
    of (Some x) = refl

pub uses-set_pipe : (b : BufId) (qs : Pipes) (p : ℕ) (x : Pipe (List Slice)) → p < length qs
    → sum_by (pipe_uses b) (slice_set qs p (Some x)) + uses b (queue_at qs p).queue ≡ sum_by (pipe_uses b) qs
    + uses b x.queue
uses-set_pipe b qs p x there =
    let none : Option (Pipe (List Slice)) = None in
    let e = sum_by-set (pipe_uses b) qs p (Some x) none there in
    omega (arith, e, uses_at b qs p)

-- Slices of counted holders are covered.

pub agg_covered : (s : Stored) (ds : Domains) (qs : Objects (List Slice)) (d a : ℕ) (xs : List Slice)
    → IsCounted s ds qs → (domain_in ds d).live ≡ true → Some xs ≡ agg_in ds d a → Covers s (bufs_of xs)
agg_covered s ds qs d a xs counted live is = record {
  each = λ b. (let e = uses-without_agg b ds d a xs live is in omega (arith, e, counted.each b));
}

pub queue_covered : (s : Stored) (ds : Domains) (qs : Objects (List Slice)) (p : ℕ) → IsCounted s ds qs
    → p < length qs.pipes → Covers s (bufs_of (queue_at qs.pipes p).queue)
queue_covered s ds qs p counted there = record {
  each =
      λ b. (let none : Option (Pipe (List Slice)) = None in let e =
      get_or-le-sum_by (pipe_uses b) qs.pipes p none there in omega (arith, e, uses_at b qs.pipes p, counted.each b));
}

-- The greatest number of references.

aggs_few : (b : BufId) (es : List (ℕ × List Slice)) → AllByRecursion (λ e. byte_len e.1 ≤ MAX_AGGREGATE_BYTES) es
    → sum_by (λ e. uses b e.1) es ≤ MAX_AGGREGATE_BYTES * length es
aggs_few b [] h = omega arith
aggs_few b (e ∷ es) h =
    let r = aggs_few b es h.1 in
    let c = sum_by-cons (λ (e : ℕ × List Slice). uses b e.1) e es in
    let u = uses_few b e.1 in
    omega (arith, r, c, u, h.0)

domains_few : (b : BufId) (ds : Domains)
    → AllByRecursion (λ d. AllByRecursion (λ e. byte_len e.1 ≤ MAX_AGGREGATE_BYTES) d.aggs) ds
    → sum_by (domain_uses b) ds ≤ MAX_AGGREGATE_BYTES * live_aggs_in ds
domains_few b [] h = omega arith
domains_few b (d ∷ ds) h =
    let r = domains_few b ds h.1 in
    let c = sum_by-cons (domain_uses b) d ds in
    let l = sum_by-cons (λ (d : Domain (List Slice)). length d.aggs) d ds in
    let u = aggs_few b d.aggs h.0 in
    omega (arith, r, c, l, u)

pipes_few : (b : BufId) (qs : Pipes) → AllByRecursion IsShort qs → sum_by (pipe_uses b) qs ≤ MAX_QUEUE_BYTES * length qs
pipes_few b [] h = omega arith
pipes_few b (None ∷ qs) h = let r = pipes_few b qs h.1 in let c = sum_by-cons (pipe_uses b) None qs in
    omega (arith, r, c)
pipes_few b (Some x ∷ qs) h = let r = pipes_few b qs h.1 in let c = sum_by-cons (pipe_uses b) (Some x) qs in let u =
    uses_few b x.queue in omega (arith, r, c, u, h.0)

conns_few : (b : BufId) (cs : List (ℕ × Conn (List Slice))) → AllByRecursion IsConn cs
    → sum_by (conn_uses b) cs ≤ 2 * MAX_QUEUE_BYTES * length cs
conns_few b [] h = omega arith
conns_few b (x ∷ cs) h = let r = conns_few b cs h.1 in let c = sum_by-cons (conn_uses b) x cs in
    omega (arith, r, c, uses_few b x.1.incoming, uses_few b x.1.outgoing, h.0.incoming, h.0.outgoing)

pub all_few : (b : BufId) (ds : Domains) (qs : Objects (List Slice)) → IsLimited ds qs → all_uses ds qs b < 2 ^ 41
all_few b ds qs limits =
    let o = limits.objects in
    omega (
      arith,
      domains_few b ds limits.aggs,
      pipes_few b qs.pipes o.queues,
      conns_few b qs.conns o.conns,
      files_few b qs.cached o.cached,
      limits.few,
      o.few_pipes,
      o.few_conns,
      o.few_files,
    )

-- more references, of one aggregate or queue, can be counted
pub countable : (s : Stored) (ds : Domains) (qs : Objects (List Slice)) (xs : List Slice) → IsCounted s ds qs
    → IsLimited ds qs → byte_len xs ≤ MAX_AGGREGATE_BYTES → IsCountable s (bufs_of xs)
countable s ds qs xs counted limits small =
    record {
      each =
          λ b. (let x = all_few b ds qs limits in let y = uses_few b xs in omega (arith, x, y, counted.each b, small));
    }
