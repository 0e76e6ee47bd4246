-- Gaps filled one after another.
use Rattle.std.proofs.Common.{add-one, Err, OnErr, Result, inl, inr, ◌≡◌, ◌⊎◌, false, ℕ, zero, suc, ◌+◌, ◌-◌, ◌<◌, ◌≤◌}
use Rattle.std.proofs.Common.{◌++◌, All, List, [], ◌∷◌, length, take, drop, get_or, refl, sym, ap, ◌∙◌, arith, subst}
use Rattle.std.specs.List.{AllZip, Contains}
use Rattle.std.proofs.lemmas.List.{append-nil, length-append, length-drop, drop-drop}
use Rattle.std.proofs.lemmas.List.Elements.{All-append, All-cons, All-nil, All-weaker}
use Rattle.std.proofs.Math.Seq.{drop-cons}
use Rattle.std.proofs.lemmas.Grind.{flat_map-append}
use Rattle.iol_core.specs.Meaning.{WantOfRoomOrFault}
use Rattle.iol_core.specs.declared.numbers.BufId.{BufId}
use Rattle.iol_core.specs.declared.refusals.Refusal.{Refusal}
use Rattle.iol_core.specs.declared.refusals.Refusal.TheVariants.{Fault, NoRoom}
use Rattle.iol_arena.specs.Adds.{IsNew}
use Rattle.iol_arena.specs.Buffers.{Grows}
use Rattle.iol_arena.specs.Chunks.{usable}
use Rattle.iol_arena.specs.State.{State, kind_free, pages_for}
use Rattle.iol_arena.specs.declared.pages.Entry.{Entry}
use Rattle.iol_arena.proofs.Members.{In, in_contains, contains_in, in_left, in_right, in_either, in_take, in_passes}
use Rattle.iol_back.specs.Disk.{Disk, IfHonest, content, raised}
use Rattle.iol_extent.specs.Extents.{Adds, Extent, ExtentMap, IsApart, end_of, put_in}
use Rattle.iol_extent.proofs.Alone.{ends_high}
use Rattle.iol_extent.specs.Spans.{AreInOrder, IsGapSpan}
use Rattle.iol_extent.specs.declared.spans.Span.{Span}
use Rattle.iol_hold.specs.Moves.{Covers, Moves, SameLists, Stays, tally}
use Rattle.iol_hold.specs.Pages.{KeepsPages}
use Rattle.iol_hold.specs.Releases.{FreesOnly}
use Rattle.iol_hold.specs.Room.{free_of}
use Rattle.iol_hold.specs.StoreState.{AllReclaimed, Stored}
use Rattle.iol_hold.specs.Texts.{AllReadable, bufs_of}
use Rattle.iol_hold.specs.declared.slices.Slice.{Slice}
use Rattle.iol_hold.proofs.Counts.{bufs-append, tally-append, tally_none}
use Rattle.iol_hold.proofs.Moves.{moves_none, moves_trans, stays_trans}
use Rattle.iol_hold.proofs.PageChanges.{keeps_pages_same}
use Rattle.iol_hold.proofs.Releases.{all_or_none}
use Rattle.iol_hold.proofs.ReadSlices.{readable_stays, text_stays}
use Rattle.iol_pool.specs.Pools.{Pool, pool_in}
use Rattle.iol_cache.specs.Gaps.{AllBegin, FillsGap, FillsGaps, IsMade, Mirrors, ReadsAllGaps, TakesBack, all_put}
use Rattle.iol_cache.specs.Gaps.{gap_pages, parts_back, without_spans}
use Rattle.iol_cache.specs.Loads.{AskCounts, Asks, PlacesOrReleases, PlacesPages, PlacesSome}
use Rattle.iol_cache.proofs.RangeReads.PageSteps.{usable_free}
use Rattle.iol_cache.proofs.RangeReads.TakenBack.{Begin, CanRead, all_put-push, back_put, back_readable, begin_put}
use Rattle.iol_cache.proofs.RangeReads.TakenBack.{gap_left, none_gaps, without_put}
use Rattle.iol_cache.specs.CacheState.{all_parts}

-- Pages, one placing after another.

nothing_taken : {A : Type 0} (n : ℕ) → take n (let l : List A = [] in l) ≡ []
nothing_taken zero = refl
nothing_taken (suc n) = refl

take-plus : {A : Type 0} (m n k : ℕ) (xs : List A) → k ≡ m + n → take k xs ≡ take m xs ++ take n (drop m xs)
take-plus zero n k xs e = (let same : k ≡ n = omega (arith, e) in ap (λ k. take k xs) same)
take-plus (suc m) n k [] e = nothing_taken k ∙ sym (nothing_taken n)
take-plus (suc m) n zero (x ∷ xs) e = absurd (omega (arith, e))
take-plus (suc m) n (suc k) (x ∷ xs) e = ap (λ l. x ∷ l) (take-plus m n k xs (omega (arith, e)))

-- a page that was filled is not filled again
pub filled_once : {s t : Stored} {p k : ℕ} (n : ℕ) → PlacesPages s t p k → (q : ℕ) → Contains (take k (free_of s p)) q
    → Contains (take n (free_of t p)) q → ⊥
filled_once {s = s} {t = t} {p = p} {k = k} n m q first again =
    let i = in_passes (usable t.arena) _ q (in_take n (free_of t p) q (in_contains (take n (free_of t p)) q again)) in
    let free = usable_free t.arena q i in
    absurd (let x = ap kind_free free in let y = m.filled q first in cc)

pub places_then : {s t u : Stored} {p k n : ℕ} → PlacesPages s t p k → PlacesPages t u p n → PlacesPages s u p (k + n)
places_then {s = s} {t = t} {u = u} {p = p} {k = k} {n = n} a b =
    let P = take k (free_of s p) in
    let Q = take n (free_of t p) in
    let split : take (k + n) (free_of s p) ≡ P ++ Q = take-plus k n (k + n) (free_of s p) refl
    ∙ ap (λ l. P ++ take n l) (sym a.free) in
    let inside : (q : ℕ) → Contains (take (k + n) (free_of s p)) q → In P q ⊎ In Q q =
    λ q h. in_either P Q q (in_contains (P ++ Q) q (subst (λ l. Contains l q) split h)) in
    let out_left : (q : ℕ) → (Contains (take (k + n) (free_of s p)) q → ⊥) → Contains P q → ⊥ =
    λ q out h.
    out (subst (λ l. Contains l q) (sym split) (contains_in (P ++ Q) q (in_left P Q q (in_contains P q h)))) in
    let out_right : (q : ℕ) → (Contains (take (k + n) (free_of s p)) q → ⊥) → Contains Q q → ⊥ =
    λ q out h.
    out (subst (λ l. Contains l q) (sym split) (contains_in (P ++ Q) q (in_right P Q q (in_contains Q q h)))) in
    let pools = b.pools ∙ a.pools in
    record {
      enough = omega (arith, a.enough, b.enough, ap length a.free, length-drop k (free_of s p));
      pages = record {
        count = b.pages.count ∙ a.pages.count;
        limit = b.pages.limit ∙ a.pages.limit;
        raises = record {
          incremented = λ q h. elim (inside q h) [
            | inl i ↦ (let c = contains_in P q i in b.pages.raises.kept q (λ j. filled_once n a q c j)
                ∙ a.pages.raises.incremented q c)
            | inr i ↦
                (let c = contains_in Q q i in b.pages.raises.incremented q c
                ∙ ap (λ g. g + 1) (a.pages.raises.kept q (λ j. filled_once n a q j c)))
          ];
          kept = λ q out. b.pages.raises.kept q (out_right q out) ∙ a.pages.raises.kept q (out_left q out);
        };
        others =
            λ q out.
            inl (ap (λ (e : Entry). e.kind) (b.others.each q (out_right q out) ∙ a.others.each q (out_left q out)));
        chunks = λ r was is. ap (λ (ps : List Pool). (pool_in ps r).chunks) pools;
        returned = λ r is. inl (ap (λ (ps : List Pool). (pool_in ps r).chunks) pools);
      };
      filled = λ q h. elim (inside q h) [
        | inl i ↦
            (let c = contains_in P q i in
            ap (λ (e : Entry). kind_free e.kind) (b.others.each q (λ j. filled_once n a q c j)) ∙ a.filled q c)
        | inr i ↦ b.filled q (contains_in Q q i)
      ];
      others = record { each = λ q out. b.others.each q (out_right q out) ∙ a.others.each q (out_left q out) };
      free = b.free ∙ ap (drop n) a.free ∙ drop-drop n k (free_of s p);
      pools = pools;
    }

pub places_none : (s : Stored) (p : ℕ) → PlacesPages s s p 0
places_none s p = record {
  enough = omega arith;
  pages = keeps_pages_same s s refl refl;
  filled = λ q h. absurd (in_contains [] q h);
  others = record { each = λ q out. refl };
  free = refl;
  pools = refl;
}

-- Spans in order.

pub order_take : (low high : ℕ) (gs : List Span) (i : ℕ) → AreInOrder low high gs → AreInOrder low high (take i gs)
order_take low high gs zero o = ends_high low high gs o
order_take low high [] (suc i) o = o
order_take low high (g ∷ gs) (suc i) o = (o.0, o.1, order_take g.to high gs i o.2)

pub order_drop : (low high : ℕ) (gs : List Span) (i : ℕ) (g : Span) (rest : List Span) → AreInOrder low high gs
    → drop i gs ≡ g ∷ rest → (g.from < g.to) × AreInOrder g.to high rest
order_drop low high [] zero g rest o e = cc
order_drop low high [] (suc i) g rest o e = cc
order_drop low high (x ∷ gs) zero g rest o e =
    let same : x ≡ g = cc in
    let tail : gs ≡ rest = cc in (
      subst (λ (y : Span). y.from < y.to) same o.1,
      subst (λ (l : List Span). AreInOrder g.to high l) tail (subst (λ (y : Span). AreInOrder y.to high gs) same o.2),
    )
order_drop low high (x ∷ gs) (suc i) g rest o e = order_drop x.to high gs i g rest o.2 e

pub order_low : (low high : ℕ) (gs : List Span) → AreInOrder low high gs → All (λ (g : Span). low ≤ g.from) gs
order_low low high [] o = All-nil (λ (g : Span). low ≤ g.from)
order_low low high (g ∷ gs) o =
    All-cons (λ (x : Span). low ≤ x.from) g gs o.0
    (All-weaker (λ (x : Span). g.to ≤ x.from) (λ (x : Span). low ≤ x.from) (λ x h. omega (arith, h, o.0, o.1)) gs
    (order_low g.to high gs o.2))

pub order_wide : (low high a b : ℕ) (gs : List Span) → a ≤ low → high ≤ b → AreInOrder low high gs → AreInOrder a b gs
order_wide low high a b [] lo hi o = omega (arith, lo, hi, o)
order_wide low high a b (g ∷ gs) lo hi o =
    (omega (arith, lo, o.0), o.1, order_wide g.to high g.to b gs (omega arith) hi o.2)

-- the next of them
pub span_next : (gs : List Span) (i : ℕ) (d : Span) → i < length gs → drop i gs ≡ get_or gs i d ∷ drop (i + 1) gs
span_next gs i d h = drop-cons gs i d h ∙ ap (λ k. get_or gs i d ∷ drop k gs) (sym (add-one i))

-- The remaining gaps.

pub gaps_left : (es es' : List Extent) (e : Extent) (high : ℕ) (rest : List Span) → AreInOrder (end_of e) high rest
    → All (IsGapSpan es) rest → Adds es e es' → All (IsGapSpan es') rest
gaps_left es es' e high rest o gaps adds =
    λ k d h. gap_left es es' e (get_or rest k d).from (get_or rest k d).to (gaps k d h) adds
    (order_low (end_of e) high rest o k d h)

pub gap_pages-push : (gs : List Span) (g : Span) → gap_pages (gs ++ g ∷ []) ≡ gap_pages gs + pages_for (g.to - g.from)
gap_pages-push [] g = omega arith
gap_pages-push (x ∷ gs) g = omega (arith, gap_pages-push gs g)

pub gap_pages-take : (gs : List Span) (i : ℕ) → gap_pages (take i gs) ≤ gap_pages gs
gap_pages-take gs zero = omega arith
gap_pages-take [] (suc i) = omega arith
gap_pages-take (g ∷ gs) (suc i) = omega (arith, gap_pages-take gs i)

-- One more gap.

zip_push : {A B : Type 0} (R : A → B → Type 0) (xs : List A) (ys : List B) (x : A) (y : B) → AllZip R xs ys → R x y
    → AllZip R (xs ++ x ∷ []) (ys ++ y ∷ [])
zip_push R [] [] x y all r = (r, tt)
zip_push R [] (b ∷ ys) x y all r = absurd all
zip_push R (a ∷ xs) [] x y all r = absurd all
zip_push R (a ∷ xs) (b ∷ ys) x y all r = (all.0, zip_push R xs ys x y all.1 r)

parts-push : (made : List Extent) (e : Extent) → bufs_of (all_parts (made ++ e ∷ [])) ≡ bufs_of (all_parts made)
    ++ bufs_of e.parts
parts-push made e =
    let f : Extent → List Slice = λ (x : Extent). x.parts in
    ap bufs_of (flat_map-append f made (e ∷ []) ∙ ap (λ l. all_parts made ++ l) (append-nil e.parts))
    ∙ bufs-append (all_parts made) e.parts

covers_parts : {s : Stored} (e : Extent) (es : List Extent) → Covers s (bufs_of (all_parts (e ∷ es)))
    → Covers s (bufs_of e.parts) × Covers s (bufs_of (all_parts es))
covers_parts {s} e es c =
    let is : (b : BufId)
    → tally b (bufs_of (all_parts (e ∷ es))) ≡ tally b (bufs_of e.parts) + tally b (bufs_of (all_parts es)) =
    λ b. ap (tally b) (bufs-append e.parts (all_parts es))
    ∙ tally-append b (bufs_of e.parts) (bufs_of (all_parts es)) in
    (record { each = λ b. omega (arith, c.each b, is b) }, record { each = λ b. omega (arith, c.each b, is b) })

new_stays : (s t u : State) (b : BufId) → Grows t u → IsNew s t b → IsNew s u b
new_stays s t u b grows n = record {
  live = grows.live b n.live;
  some = omega (arith, n.some, ap length (grows.bytes b n.live));
  next = n.next;
}

made_stay : (s t u : Stored) (p : ℕ) (gs : List Span) (made : List Extent) → Stays t u → Grows t.arena u.arena
    → Covers u (bufs_of (all_parts made)) → AllZip (IsMade s t p) gs made → AllZip (IsMade s u p) gs made
made_stay s t u p [] [] stays grows c all = tt
made_stay s t u p [] (e ∷ made) stays grows c all = absurd all
made_stay s t u p (g ∷ gs) [] stays grows c all = absurd all
made_stay s t u p (g ∷ gs) (e ∷ made) stays grows c all =
    let both = covers_parts e made c in
    let is = all.0 in (
      record {
        begins = is.begins;
        ends = is.ends;
        clean = is.clean;
        readable = readable_stays e.parts stays both.0 is.readable;
        pooled = is.pooled;
        fresh =
            record {
              each =
                  λ k d h. new_stays s.arena t.arena u.arena (get_or (bufs_of e.parts) k d) grows (is.fresh.each k d h);
            };
      },
      made_stay s t u p gs made stays grows both.1 all.1,
    )

mirror_stay : (t u : Stored) (p : ℕ) (stored : List ℕ) (gs : List Span) (made : List Extent) (s : Stored) → Stays t u
    → Covers u (bufs_of (all_parts made)) → AllZip (IsMade s t p) gs made → All (Mirrors t p stored) made
    → All (Mirrors u p stored) made
mirror_stay t u p stored [] [] s stays c zip all = All-nil (Mirrors u p stored)
mirror_stay t u p stored [] (e ∷ made) s stays c zip all = absurd zip
mirror_stay t u p stored (g ∷ gs) [] s stays c zip all = absurd zip
mirror_stay t u p stored (g ∷ gs) (e ∷ made) s stays c zip all =
    let both = covers_parts e made c in
    let here = all 0 e (omega arith) in
    All-cons (Mirrors u p stored) e made
    (record { within = here.within; is = text_stays e.parts stays both.0 zip.0.readable ∙ here.is })
    (mirror_stay t u p stored gs made s stays both.1 zip.1 (λ k d h. all (suc k) d (omega arith)))

-- pages were filled twice: a buffer that is new in the second step is new since before the first one
new_since : (s t u : Stored) (p k n : ℕ) (b : BufId) → PlacesPages s t p k → PlacesPages t u p n
    → IsNew t.arena u.arena b → IsNew s.arena u.arena b
new_since s t u p k n b first then new =
    let out : Contains (take k (free_of s p)) b.page → ⊥ = λ h.
    let same = ap (λ (e : Entry). e.generation) (then.others.each b.page (λ j. filled_once n first b.page h j)) in
    absurd (omega (arith, same, new.live.generation, new.next)) in
    record { live = new.live; some = new.some; next = new.next ∙ ap (λ g. g + 1) (first.pages.raises.kept b.page out) }

pub fills_none : (s : Stored) (m : ExtentMap) (p : ℕ) (disk : Disk) (file : ℕ) → IsApart 0 m.extents
    → FillsGaps s s m m p [] disk file
unfolding all_put
fills_none s m p disk file apart = record {
  made = [];
  each = record { each = tt };
  extents = refl;
  apart = apart;
  room = omega arith;
  moves = moves_none s;
  places = places_none s p;
  mirrors = λ y. record { each = All-nil (Mirrors s p (content disk.slots file)) };
}

pub fills_more : (s t u : Stored) (old mid new : ExtentMap) (p file : ℕ) (gs : List Span) (g : Span) (d e : Disk)
    → e.honest ≡ d.honest → IfHonest d (e.slots ≡ d.slots)
    → FillsGaps s t old mid p gs d file → FillsGap t u mid new p g e file
    → FillsGaps s u old new p (gs ++ g ∷ []) d file
fills_more s t u old mid new p file gs g d e honest slots a b =
    let x = b.made in
    let joined = parts-push a.made x in
    let moves : Moves s u [] (bufs_of (all_parts a.made) ++ bufs_of x.parts) = moves_trans a.moves b.moves in
    let held : Covers u (bufs_of (all_parts a.made)) =
    record {
      each =
          λ c. omega (
            arith,
            moves.counts.each c,
            tally_none c,
            tally-append c (bufs_of (all_parts a.made)) (bufs_of x.parts),
          );
    } in
    let is : IsMade s u p g x = record {
      begins = b.is.begins;
      ends = b.is.ends;
      clean = b.is.clean;
      readable = b.is.readable;
      pooled = b.is.pooled;
      fresh =
          record {
            each =
                λ i c h. new_since s t u p (gap_pages gs) (pages_for (g.to - g.from)) (get_or (bufs_of x.parts) i c)
                a.places
                b.places (b.is.fresh.each i c h);
          };
    } in
    record {
      made = a.made ++ x ∷ [];
      each =
          record {
            each =
                zip_push (IsMade s u p) gs a.made g x
                (made_stay s t u p gs a.made b.moves.stays b.grows held a.each.each) is;
          };
      extents = b.extents ∙ ap (λ (es : List Extent). put_in es x) a.extents ∙ sym (all_put-push old.extents a.made x);
      apart = b.apart;
      room = omega (arith, a.room, b.room, length-append gs (g ∷ []));
      moves = subst (λ bs. Moves s u [] bs) (sym joined) moves;
      places = subst (λ n. PlacesPages s u p n) (sym (gap_pages-push gs g)) (places_then a.places b.places);
      mirrors = λ y. record {
        each = All-append (Mirrors u p (content d.slots file)) a.made (x ∷ [])
            (mirror_stay t u p (content d.slots file) gs a.made s b.moves.stays held a.each.each (a.mirrors y).each)
            (All-cons (Mirrors u p (content d.slots file)) x []
            (subst (λ (l : List (List ℕ)). Mirrors u p (content l file) x) (slots y) (b.mirrors (honest ∙ y)))
            (All-nil (Mirrors u p (content d.slots file))));
      };
    }

-- Filled gaps, and their extents taken back.

zip_begin : (s t : Stored) (p : ℕ) (gs : List Span) (made : List Extent) → AllZip (IsMade s t p) gs made
    → AllZip Begin gs made
zip_begin s t p [] [] all = tt
zip_begin s t p [] (e ∷ made) all = absurd all
zip_begin s t p (g ∷ gs) [] all = absurd all
zip_begin s t p (g ∷ gs) (e ∷ made) all = (all.0.begins, zip_begin s t p gs made all.1)

zip_read : (s t : Stored) (p : ℕ) (gs : List Span) (made : List Extent) → AllZip (IsMade s t p) gs made
    → All (CanRead t) made
zip_read s t p [] [] all = All-nil (CanRead t)
zip_read s t p [] (e ∷ made) all = absurd all
zip_read s t p (g ∷ gs) [] all = absurd all
zip_read s t p (g ∷ gs) (e ∷ made) all = All-cons (CanRead t) e made all.0.readable (zip_read s t p gs made all.1)

-- the conditions of `take_back`, and its result: the old extents, and the slices of those taken back
pub record CanTakeBack (t : Stored) (old mid : List Extent) (gs : List Span) (bufs : List BufId) : Type 0 where
  pub begin : AllBegin mid gs
  pub without : without_spans mid gs ≡ old
  pub readable : AllReadable t (parts_back mid gs)
  pub same : (b : BufId) → tally b (bufs_of (parts_back mid gs)) ≡ tally b bufs

pub can_take_back : {s t : Stored} {old mid : ExtentMap} {p file : ℕ} {gs : List Span} {d : Disk} (low high : ℕ)
    → IsApart 0 old.extents → AreInOrder low high gs → All (IsGapSpan old.extents) gs
    → (f : FillsGaps s t old mid p gs d file) → CanTakeBack t old.extents mid.extents gs (bufs_of (all_parts f.made))
can_take_back {s = s} {t = t} {old = old} {mid = mid} {p = p} {gs = gs} low high apart order gaps f =
    let none = none_gaps old.extents low high gs apart order gaps in
    let zip = zip_begin s t p gs f.made f.each.each in
    let is = f.extents in
    record {
      begin = subst (λ (es : List Extent). AllBegin es gs) (sym is) (begin_put old.extents low gs f.made none zip);
      without = ap (λ (es : List Extent). without_spans es gs) is ∙ without_put old.extents low gs f.made none zip;
      readable =
          subst (λ (es : List Extent). AllReadable t (parts_back es gs)) (sym is)
          (back_readable t old.extents low gs f.made none zip (zip_read s t p gs f.made f.each.each));
      same = λ b. ap (λ (es : List Extent). tally b (bufs_of (parts_back es gs))) is
          ∙ back_put old.extents low gs f.made none zip b;
    }

pub covers_back : {s t u : Stored} {bufs back : List BufId} → Moves s t [] bufs → Moves t u [] []
    → ((b : BufId) → tally b back ≡ tally b bufs) → Covers u back
covers_back m n same = record { each = λ b. omega (arith, m.counts.each b, n.counts.each b, tally_none b, same b) }

pub moved_back : {s t u v : Stored} {bufs back : List BufId} → Moves s t [] bufs → Moves t u [] [] → Moves u v back []
    → ((b : BufId) → tally b back ≡ tally b bufs) → Moves s v [] []
moved_back m n o same = record {
  counts =
      record { each = λ b. omega (arith, m.counts.each b, n.counts.each b, o.counts.each b, tally_none b, same b) };
  stays = stays_trans m.stays (stays_trans n.stays o.stays);
  still = λ h. o.still (n.still (m.still h));
  tidy = λ h. o.tidy (n.tidy (m.tidy h));
}

-- a refusal passed on, with equal pools and equal numbers of pages
pub leaves_as : {A B : Type 0} {p q m n : ℕ} {s t : Stored} {x : Refusal} → p ≡ q → m ≡ n
    → PlacesOrReleases {A = A} p m s t (Err x) → PlacesOrReleases {A = B} q n s t (Err x)
leaves_as {p = p} {n = n} {s = s} {t = t} pool pages h = record {
  none = h.none;
  given_back = subst (λ k. PlacesSome s t k n) pool (subst (PlacesSome s t p) pages h.given_back);
  lists = h.lists;
  reclaims = h.reclaims;
  no_room = λ r is. omega (arith, h.no_room r is, pages, ap (λ k. length (free_of s k)) pool);
}

-- pages were filled, then nothing was placed, and some pages were freed
pub placed_some : {s t u v : Stored} {p k : ℕ} (n : ℕ) → k ≤ n → PlacesPages s t p k → KeepsPages t u [] → FreesOnly u v
    → u.pools ≡ t.pools → PlacesSome s v p n
placed_some {s = s} {t = t} {u = u} {v = v} {p = p} {k = k} n few a b c same =
    let P = take k (free_of s p) in
    let out : (q : ℕ) → Contains (let l : List ℕ = [] in l) q → ⊥ = λ q h. in_contains [] q h in
    record {
      count = k;
      few = few;
      pages = record {
        count = c.count ∙ b.count ∙ a.pages.count;
        limit = c.limit ∙ b.limit ∙ a.pages.limit;
        raises = record {
          incremented = λ q h. c.incremented q ∙ b.raises.kept q (out q) ∙ a.pages.raises.incremented q h;
          kept = λ q h. c.incremented q ∙ b.raises.kept q (out q) ∙ a.pages.raises.kept q h;
        };
        others = λ q h. elim (c.each q) [
          | inl x ↦ elim (b.others q (out q)) [
            | inl y ↦ elim (a.pages.others q h) [ inl z ↦ inl (x ∙ y ∙ z) | inr z ↦ inr (x ∙ y ∙ z) ]
            | inr y ↦ inr (x ∙ y)
          ]
          | inr x ↦ inr x
        ];
        returned = λ r is. all_or_none s u v r (inl (ap (λ (ps : List Pool). (pool_in ps r).chunks) (same ∙ a.pools)))
            (c.chunks r);
        chunks = λ r was is.
            let pools : u.pools ≡ s.pools = same ∙ a.pools in
            let still : (pool_in u.pools r).closed ≡ false = ap (λ (ps : List Pool). (pool_in ps r).closed) pools
            ∙ was in
            ap (λ (x : Pool). x.chunks) (c.pools r still) ∙ ap (λ (ps : List Pool). (pool_in ps r).chunks) pools;
      };
    }

pub same_map : (m n : ExtentMap) → m.extents ≡ n.extents → m.room ≡ n.room → m ≡ n
same_map m n e r = λ i. record { extents = e i; room = r i }

-- The extents of filled gaps were taken back, after a step that kept no new reference.
pub taken_back : {A : Type 0} {s t u v : Stored} {old mid new : ExtentMap} {p file : ℕ} {gs : List Span} {d e : Disk}
    (all : List Span) (x : Refusal) (f : FillsGaps s t old mid p gs d file)
    → CanTakeBack t old.extents mid.extents gs (bufs_of (all_parts f.made)) → Moves t u [] []
    → SameLists s u → (AllReclaimed s → AllReclaimed u) → TakesBack u v mid new gs → PlacesSome s v p (gap_pages all)
    → ((q : ℕ) → x ≡ NoRoom q → length (free_of s p) < gap_pages all) → Asks {A = A} (length all) d e (Err x)
    → WantOfRoomOrFault p file x
    → ReadsAllGaps {A = A} p file all (new ≡ old) d e s v (Err x)
taken_back {old = old} {mid = mid} {new = new} {gs = gs} all x f can none lists reclaims taken left no_room asks late =
    record {
      same = same_map new old (taken.extents ∙ can.without) (omega (arith, taken.room, f.room));
      leaves = record {
        none = moved_back f.moves none taken.moves can.same;
        given_back = left;
        lists = taken.lists ∙ lists;
        reclaims =
            λ h. taken.reclaims
            (readable_stays (parts_back mid.extents gs) none.stays (covers_back f.moves none can.same)
            can.readable) (reclaims h);
        no_room = no_room;
      };
      asks = asks;
      late = late;
    }

-- The requests to the store by a call, after others that did not fail.

counts_after : (n : ℕ) (a b c : Disk) (x : Refusal) → 0 < n → b.failures ≡ a.failures → AskCounts {A = ℕ} 1 b c (Err x)
    → AskCounts {A = ℕ} n a c (Err x)
counts_after n a b c (Fault f) some same h = (h.0 ∙ ap raised same, some)
counts_after n a b c x some same h = h ∙ same

pub asks_after : {A B : Type 0} {a b c : Disk} {x : Refusal} (n : ℕ) → 0 < n → b.honest ≡ a.honest
    → IfHonest a (b.slots ≡ a.slots) → b.failures ≡ a.failures → Asks {A = A} 1 b c (Err x) → Asks {A = B} n a c (Err x)
asks_after {a = a} {b = b} {c = c} {x = x} n some honest slots same h =
    record {
      honest = h.honest ∙ honest;
      slots = λ y. h.slots (honest ∙ y) ∙ slots y;
      counts =
          counts_after n a b c x some same h.counts;
    }

-- the same facts of an equal pool, with a weaker fact for an error
pub reads_as : {A S T : Type 0} {p q file : ℕ} {gs : List Span} {d e : Disk} {s t : Stored} {r : Result A Refusal}
    → p ≡ q → (OnErr r S → OnErr r T) → ReadsAllGaps p file gs S d e s t r → ReadsAllGaps q file gs T d e s t r
reads_as {T = T} {p = p} {file = file} {gs = gs} {d = d} {e = e} {s = s} {t = t} {r = r} pool stays h =
    let here : ReadsAllGaps p file gs T d e s t r =
    record { same = stays h.same; leaves = h.leaves; asks = h.asks; late = h.late } in
    subst (λ k. ReadsAllGaps k file gs T d e s t r) pool here

-- a refusal for the gaps is a refusal for the range
pub reads_refused : {A B S T : Type 0} {p file : ℕ} {gs : List Span} {d e : Disk} {s t : Stored} {x : Refusal} → (S → T)
    → ReadsAllGaps {A = A} p file gs S d e s t (Err x) → ReadsAllGaps {A = B} p file gs T d e s t (Err x)
reads_refused stays h = record {
  same = stays h.same;
  leaves = leaves_as refl refl h.leaves;
  asks =
      record { honest = h.asks.honest; slots = h.asks.slots; counts = h.asks.counts };
  late = h.late;
}
