use Rattle.std.proofs.Common.{◌∙◌, ap, sym, subst, refl, length, get_or, take, drop, inl, inr, List, arith}
use Rattle.std.specs.List.{All}
use Rattle.iol_core.specs.declared.numbers.BufId.{BufId}
use Rattle.iol_arena.specs.Adds.{IsNew}
use Rattle.iol_arena.specs.Buffers.{bytes_in}
use Rattle.iol_arena.specs.State.{pages_for}
use Rattle.iol_arena.specs.Pages.{MadeOn}
use Rattle.iol_arena.specs.Parts.{needed_pages, part_pages}
use Rattle.iol_arena.specs.declared.pages.PageKind.TheVariants.{Pending}
use Rattle.iol_arena.proofs.MarkedParts.{page_all}
use Rattle.iol_arena.proofs.NewBuffers.{new_places}
use Rattle.iol_arena.proofs.Members.{In, in_either, in_contains, contains_in}
use Rattle.iol_hold.specs.Fillings.{IsHeld}
use Rattle.iol_hold.specs.NewBuffers.{PublishesFirst}
use Rattle.iol_hold.specs.StoreState.{Stored, Buffer, IsTidy}
use Rattle.iol_hold.specs.View.{stored}
use Rattle.iol_hold.specs.PendingPages.{Publishes, all_held}
use Rattle.iol_pool.proofs.Owners.{owned_stays}
use Rattle.iol_hold.proofs.LiveBuffers.{holds_all, tidy_of}
use Rattle.iol_hold.proofs.Publication.{Makes, held_filled, held_named, held_pool, made_holds, made_publishes}
use Rattle.iol_hold.proofs.Publication.{made_usable, length-all_held}
use Rattle.std.proofs.lemmas.List.{length-map, take-append-drop, take_all}
use Rattle.iol_hold.proofs.store.Store.publish_reserved.Goals as goal

abbrev after : goal.After-new → Stored
after c = record {
  arena = c.publish_reserved-bufs.new.self;
  pools = c.self.inside.pools;
  counts =
      c.hold_once.new.counts.items;
}

-- buffers were made on the first pages, and the others become free
makes : (c : goal.After-new)
    → Makes (stored c.self.inside) (after c) (part_pages c.args.reserved.reservation.parts.items)
    (needed_pages c.args.reserved.reservation.parts.items c.args.len) c.publish_reserved-bufs.result.items
makes c =
    let s : Stored = stored c.self.inside in
    let ps = c.args.reserved.reservation.parts.items in
    let k = pages_for c.args.len in
    let held = subst (λ (x : Stored). IsHeld x c.args.reserved) (sym c.self.view_is) c.requires in
    let e = c.publish_reserved-bufs.ensures in
    record {
      waited = λ q h. (page_all Pending s.arena.limit s.arena.entries ps q held.pages.pending h).0;
      others = e.others;
      back =
          λ q h off.
          elim (in_either (take k (part_pages ps)) (drop k (part_pages ps)) q
          (subst (λ l. In l q) (sym (take-append-drop k (part_pages ps))) h)) [
            | inl on ↦ absurd (off on)
            | inr past ↦ e.returned.each q (contains_in (drop k (part_pages ps)) q past)
          ];
      on = e.made_on;
      new = e.adds.made;
      runs = e.runs;
      long = c.self.invariant.counts;
      counts = c.hold_once.ensures ∙ ap (all_held s.counts) c.as_slice.ensures;
    }

tidy : (c : goal.After-new) → IsTidy (after c)
tidy c =
    let s : Stored = stored c.self.inside in
    let ps = c.args.reserved.reservation.parts.items in
    let e = c.publish_reserved-bufs.ensures in
    tidy_of (made_holds s (after c) (part_pages ps) (needed_pages ps c.args.len) c.publish_reserved-bufs.result.items
    (makes c) (holds_all c.self.invariant.tidy)) e.runs
    (owned_stays s.arena c.publish_reserved-bufs.new.self s.pools e.adds.grows.taken c.self.invariant.tidy.owned)

pub invariant_of-self : goal.invariant_of-self
invariant_of-self c =
    let s : Stored = stored c.self.inside in
    let counts = c.hold_once.ensures ∙ ap (all_held s.counts) c.as_slice.ensures in
    record {
      counts = ap length counts ∙ length-all_held s.counts c.publish_reserved-bufs.result.items
          ∙ c.self.invariant.counts ∙ sym c.publish_reserved-bufs.ensures.adds.grows.count;
      tidy = tidy c;
    }

pub returns : goal.returns
returns c =
    let s : Stored = stored c.self.inside in
    let t : Stored = after c in
    let p = c.args.reserved.pool in
    let ps = c.args.reserved.reservation.parts.items in
    let pages = part_pages ps in
    let placed = needed_pages ps c.args.len in
    let bufs : List BufId = c.publish_reserved-bufs.result.items in
    let held = subst (λ (x : Stored). IsHeld x c.args.reserved) (sym c.self.view_is) c.requires in
    let e = c.publish_reserved-bufs.ensures in
    let m = makes c in
    -- the buffers of the holds are the new buffers
    let named = held_named p bufs c.new.result c.new.ensures in
    let one : BufId → Buffer = λ b. record { pool = p; buf = b } in
    let places = new_places pages bufs (λ q out. e.others.each q (λ h. out (in_contains pages q h))) e.adds.made in
    subst (λ (x : Stored). PublishesFirst x t c.args.reserved c.args.len c.new.result) c.self.view_is (record {
      publishes = subst (λ bs. Publishes s t ps bs) (sym named) (made_publishes s t ps placed bufs m e.adds.grows refl);
      made = subst (λ bs. All (IsNew s.arena t.arena) bs) (sym named) e.adds.made;
      value = ap (bytes_in t.arena) named ∙ e.adds.value;
      filled =
          held_filled s t p bufs c.new.result c.new.ensures e.adds.made
          (λ k d h. held.inside (get_or bufs k d).page (contains_in pages (get_or bufs k d).page (places k d h)));
      pool = held_pool p bufs c.new.result c.new.ensures;
      few = omega (arith, ap length c.new.ensures, length-map bufs one, e.few);
      made_on = subst (λ bs. MadeOn s.arena t.arena bs placed) (sym named) e.made_on;
      others = e.others;
      returned = e.returned;
      free =
          record {
            each =
                λ long. made_usable s t pages placed bufs m e.adds.grows.limit
                (λ q h. subst (λ l. In l q) (sym (take_all (pages_for c.args.len) pages (omega (arith, long)))) h);
          };
      tidy = tidy c;
    })
