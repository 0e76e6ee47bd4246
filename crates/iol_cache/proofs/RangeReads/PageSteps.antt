-- Pages after bytes were placed, after a placement was given up, and over several steps.
use Rattle.std.proofs.Common.{inl, inr, ◌≡◌, zero, suc, ◌∷◌, get_or, All, true, false, ℕ, ◌+◌, ◌<◌, ◌≤◌, List, []}
use Rattle.std.proofs.Common.{length, take, drop, map, refl, sym, ap, ◌∙◌, arith, subst}
use Rattle.std.specs.List.{Contains, flat_map, range_with_len}
use Rattle.std.proofs.lemmas.Bool.{cases_eq, cases_lt}
use Rattle.std.proofs.lemmas.List.{length-map, take-take, length-take-le}
use Rattle.iol_core.specs.declared.numbers.BufId.{BufId}
use Rattle.iol_arena.specs.State.{State, HasRuns, entry_at, entry_in, pages_for, is_free, kind_free}
use Rattle.iol_arena.specs.Buffers.{IsLive, IsUnraised, bytes_in, len_of}
use Rattle.iol_arena.specs.Adds.{IsNew}
use Rattle.iol_arena.specs.Chunks.{usable, chunk_pages, free_pages}
use Rattle.iol_arena.specs.Pages.{AreUsable, IsSameBut, MadeOn, begun_on}
use Rattle.iol_arena.specs.Parts.{part_pages, needed_pages}
use Rattle.iol_arena.specs.declared.pages.Entry.{Entry}
use Rattle.iol_arena.specs.declared.pages.PageKind as kind
use Rattle.iol_arena.specs.declared.pages.PageKind.TheVariants.{Free, Pending, Head, Tail}
use Rattle.iol_arena.specs.declared.pages.Part.{Part}
use Rattle.iol_arena.proofs.Good.{and_left}
use Rattle.iol_arena.proofs.Grows.{grows_trans}
use Rattle.iol_arena.proofs.NewBuffers.{made_since, same_but_trans, same_but_entries}
use Rattle.iol_arena.proofs.Members.{In, in_either, range_in, in_or_out, in_contains, contains_in, filter_same}
use Rattle.iol_back.specs.Disk.{Disk, IfHonest, content}
use Rattle.iol_pool.specs.Pools.{Pool, pool_in}
use Rattle.iol_hold.specs.StoreState.{Buffer, Stored, IsTidy, held_bufs}
use Rattle.iol_hold.specs.Pages.{KeepsPages}
use Rattle.iol_hold.specs.Room.{free_of, has_room, lowest_of, others_of}
use Rattle.iol_hold.specs.Texts.{IsFilled}
use Rattle.iol_hold.specs.PendingPages.{Fills, Publishes, FreesNone}
use Rattle.iol_hold.proofs.PageChanges.{keeps_pages_made}
use Rattle.iol_hold.proofs.Reservations.{fill_publish, fills_trans}
use Rattle.iol_hold.proofs.Rooms.{room_there}
use Rattle.iol_cache.specs.Loads.{LoadsHolds, PlacesBuffers}

no_member : (q : ℕ) → Contains (let l : List ℕ = [] in l) q → ⊥
no_member q h = in_contains [] q h

free_kind : (k : kind.PageKind) → kind_free k ≡ true → k ≡ Free
free_kind Free h = refl
free_kind Pending h = cc
free_kind (Head n) h = cc
free_kind (Tail p) h = cc

-- a usable page is free
pub usable_free : (s : State) (q : ℕ) → usable s q ≡ true → (entry_at s q).kind ≡ Free
usable_free s q h = free_kind (entry_at s q).kind (and_left (kind_free (entry_at s q).kind) _ h)

-- without room, too few pages are free
pub few_free : (s : Stored) (p n : ℕ) → has_room s p n ≡ false → length (free_of s p) < pages_for n
few_free s p n h = elim (cases_lt (length (free_of s p)) (pages_for n)) [
  | inl l ↦ l
  | inr l ↦ absurd (let e = room_there s p n l in cc)
]

-- pages that were reserved, written and given back
pub keeps_abandoned : {a b c d : Stored} (ps qs : List Part) (placed : List ℕ) → qs ≡ ps → part_pages ps ≡ placed
    → Fills a b ps → IsSameBut (part_pages ps) a.arena b.arena → Fills b c ps → c.arena.entries ≡ b.arena.entries
    → Publishes c d qs [] → IsUnraised c.arena d.arena → IsSameBut (part_pages qs) c.arena d.arena
    → AreUsable d.arena (part_pages qs) → KeepsPages a d [] × IsSameBut placed a.arena d.arena × (d.pools ≡ a.pools)
keeps_abandoned {a = a} {b = b} {c = c} {d = d} ps qs placed parts is one but two same three unraised left back =
    let grows = grows_trans one.grows (grows_trans two.grows three.grows) in
    let pages : part_pages qs ≡ placed = ap part_pages parts ∙ is in
    let rest : IsSameBut placed a.arena d.arena =
    same_but_trans (subst (λ (l : List ℕ). IsSameBut l a.arena b.arena) is but)
    (same_but_trans (same_but_entries placed same)
    (subst (λ (l : List ℕ). IsSameBut l c.arena d.arena) pages left)) in
    let pools = three.pools ∙ two.pools ∙ one.pools in (
      record {
        count = grows.count;
        limit = grows.limit;
        raises = record {
          incremented = λ q h. absurd (no_member q h);
          kept = λ q out. unraised q ∙ two.unraised q
              ∙ one.unraised q;
        };
        others = λ q out. elim (in_or_out placed q) [
          | inl i ↦
              inr (usable_free d.arena q (back.each q (subst (λ l. Contains l q) (sym pages) (contains_in placed q i))))
          | inr o ↦ inl (ap (λ (e : Entry). e.kind) (rest.each q (λ h. o (in_contains placed q h))))
        ];
        chunks = λ p was now. ap (λ (ps : List Pool). (pool_in ps p).chunks) pools;
        returned = λ p now. inl (ap (λ (ps : List Pool). (pool_in ps p).chunks) pools);
      },
      rest,
      pools,
    )

begun_at : (s : State) (rs : List Part) (q : ℕ) → In (part_pages rs) q
    → (r : Part) × (r.first ≤ q) × (q < r.first + r.count)
    × ((i : ℕ) × (i < length rs) × ((d : Part) → get_or rs i d ≡ r))
begun_at s [] q h = elim h [ ]
begun_at s (r ∷ rs) q h = elim (in_either (range_with_len r.first r.count) (part_pages rs) q h) [
  | inl i ↦ (let b = range_in r.first r.count q i in (r, b.0, b.1, (0, omega arith, λ d. refl)))
  | inr i ↦ (let x = begun_at s rs q i in (x.0, x.1, x.2, (suc x.3.0, omega (arith, x.3.1), λ d. x.3.2 d)))
]

run_stands : (s : State) (p n q : ℕ) → HasRuns s.entries → (entry_at s p).kind ≡ Head n → p ≤ q → q < p + pages_for n
    → kind_free (entry_at s q).kind ≡ false
run_stands s p n q runs head lo hi = elim (cases_eq q p) [
  | inl e ↦ ap (λ x. kind_free (entry_at s x).kind) e ∙ ap kind_free head
  | inr ne ↦ ap kind_free ((runs.each p n head).tails q (omega (arith, lo, ne)) hi)
]

get_map : {A B : Type 0} (f : A → B) (xs : List A) (i : ℕ) (d : A) (e : B) → i < length xs
    → get_or (map f xs) i e ≡ f (get_or xs i d)
get_map f [] i d e h = absurd (omega arith)
get_map f (x ∷ xs) zero d e h = refl
get_map f (x ∷ xs) (suc i) d e h = get_map f xs i d e (omega arith)

-- each filled page has a buffer
pub made_stands : {s t : State} {bufs : List BufId} {placed : List ℕ} → MadeOn s t bufs placed → All (IsLive t) bufs
    → HasRuns t.entries → (q : ℕ) → Contains placed q → kind_free (entry_at t q).kind ≡ false
made_stands {s = s} {t = t} {bufs = bufs} {placed = placed} m live runs q h =
    let x = begun_at s m.runs q (subst (λ l. In l q) (sym m.cover) (in_contains placed q h)) in
    let r = x.0 in
    let i = x.3.0 in
    let b = begun_on s r in
    let long : length bufs ≡ length m.runs = ap length m.begun ∙ length-map m.runs (begun_on s) in
    let is : get_or bufs i b ≡ b = ap (λ (l : List BufId). get_or l i b) m.begun
    ∙ get_map (begun_on s) m.runs i r b x.3.1 ∙ ap (begun_on s) (x.3.2 r) in
    let alive : IsLive t b = subst (IsLive t) is (live i b (omega (arith, long, x.3.1))) in
    let f : BufId → ℕ = λ c. pages_for (len_of t c) in
    let pages : pages_for (len_of t b) ≡ r.count =
    ap f (sym is) ∙ sym (get_map f bufs i b 0 (omega (arith, long, x.3.1))) ∙ ap (λ l. get_or l i 0) m.whole
    ∙ get_map (λ (p : Part). p.count) m.runs i r 0 x.3.1 ∙ ap (λ (p : Part). p.count) (x.3.2 r) in
    run_stands t r.first (len_of t b) q runs alive.head x.1 (omega (arith, x.2, pages))

-- pages that were reserved, written and published, all of them
pub placed_all : {a b c d : Stored} {bufs : List BufId} (ps qs : List Part) (p n : ℕ) → qs ≡ ps
    → part_pages ps ≡ lowest_of a p n → pages_for n ≤ length (free_of a p) → Fills a b ps
    → IsSameBut (part_pages ps) a.arena b.arena
    → free_pages b.arena (pool_in a.pools p).chunks ≡ others_of a p n → Fills b c ps → c.arena.entries ≡ b.arena.entries
    → Publishes c d qs bufs → All (IsNew c.arena d.arena) bufs → MadeOn c.arena d.arena bufs (needed_pages qs n)
    → IsSameBut (part_pages qs) c.arena d.arena → FreesNone c.arena d.arena qs n → IsTidy d
    → PlacesBuffers a d p n bufs
placed_all {a = a} {b = b} {c = c} {d = d} {bufs = bufs} ps qs p n is at enough one but free two same three fresh made
    left none tidy =
    let k = pages_for n in
    let fs = free_of a p in
    let pages : part_pages qs ≡ take k fs = ap part_pages is ∙ at in
    let needed : needed_pages qs n ≡ take k fs = ap (take k) pages ∙ take-take k k fs (omega arith) in
    let all : length (part_pages qs) ≡ k = ap length pages ∙ length-take-le k fs enough in
    let publishes = subst (λ (l : List Part). Publishes c d l bufs) is three in
    let pools = three.pools ∙ two.pools ∙ one.pools in
    let grows = grows_trans one.grows (grows_trans two.grows three.grows) in
    let made2 : MadeOn a.arena d.arena bufs (take k fs) =
    subst (λ l. MadeOn a.arena d.arena bufs l) needed (made_since (λ q. two.unraised q ∙ one.unraised q) made) in
    let but2 : IsSameBut (take k fs) a.arena d.arena =
    same_but_trans (subst (λ (l : List ℕ). IsSameBut l a.arena b.arena) at but)
    (same_but_trans (same_but_entries (take k fs) same)
    (subst (λ (l : List ℕ). IsSameBut l c.arena d.arena) pages left)) in
    let limits = two.grows.limit in
    record {
      moves = fill_publish (fills_trans one two) publishes tidy;
      made =
          λ k e h. (let x = fresh k e h in
          record {
            live = x.live;
            some = x.some;
            next =
                x.next ∙ ap (λ g. g + 1) (two.unraised (get_or bufs k e).page ∙ one.unraised (get_or bufs k e).page);
          });
      made_on = made2;
      grows = grows;
      pages = record {
        enough = enough;
        pages = keeps_pages_made made2 but2 grows pools;
        filled = made_stands made2 (λ k d h. (fresh k d h).live) tidy.runs;
        others = but2;
        free = ap (λ (ps : List Pool). free_pages d.arena (pool_in ps p).chunks) pools
            ∙ filter_same (usable d.arena) (usable b.arena) (flat_map chunk_pages (pool_in a.pools p).chunks)
            (λ q i. none.each all q ∙ ap (λ (es : List Entry). is_free c.arena.limit (entry_in es q)) same
            ∙ ap (λ l. is_free l (entry_at b.arena q)) limits)
            ∙ free;
        pools = pools;
      };
    }

pub loaded : {s t : Stored} {p n : ℕ} (holds : List Buffer) (disk : Disk) (file at : ℕ)
    → PlacesBuffers s t p n (held_bufs holds) → All (IsFilled t) holds → All (λ (h : Buffer). h.pool ≡ p) holds
    → length holds ≤ pages_for n
    → length (bytes_in t.arena (held_bufs holds)) ≡ n
    → IfHonest disk (bytes_in t.arena (held_bufs holds) ≡ take n (drop at (content disk.slots file)))
    → IfHonest disk (at + n ≤ length (content disk.slots file))
    → LoadsHolds s t p n disk file at holds
loaded holds disk file at placed filled pooled few len value inside =
    record { placed = placed; filled = filled; pooled = pooled; few = few; len = len; value = value; inside = inside }
