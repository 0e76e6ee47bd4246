use Rattle.std.proofs.Common.{inl, inr, ◌≡◌, ◌∙◌, length, refl, ap, arith, subst}
use Rattle.std.proofs.lemmas.Bool.{cases_eq, cases_lt}
use Rattle.iol_evict.specs.Order.{Ranking}
use Rattle.iol_cache.specs.CacheState.{order_in}
use Rattle.iol_cache.specs.Cache.{cached_of, holding}
use Rattle.iol_cache.specs.Evictions.{EvictsPools}
use Rattle.iol_cache.proofs.Extents.FileEntries.{order_nowhere}
use Rattle.iol_cache.proofs.Evictions.Files.{gives_up_none, gives_up_trans}
use Rattle.iol_cache.proofs.Evictions.Victims.{pools_more, all_dirty}
use Rattle.iol_cache.proofs.cache.Cache.drop_clean.Goals as goal

pub loop-i-init : goal.loop-i-init
loop-i-init c = record {
  sound = c.requires;
  none = λ p some few. absurd (omega (arith, some, few));
  len = refl;
  victims = refl;
  gives_up = gives_up_none (holding c.args.store.now c.args.self.now);
}

pub loop-i-preserved : goal.loop-i-preserved
loop-i-preserved c =
    let old = holding c.args.store.now c.args.self.now in
    let now = holding c.loop-i.store c.loop-i.self in
    let next = holding c.drop_clean_of.new.store c.drop_clean_of.new.self in
    let here = c.drop_clean_of.ensures in
    let i = c.loop-i.invariant in
    record {
      sound = here.sound;
      none = λ p some few. elim (cases_eq p c.new.result) [
        | inl e ↦ ap (λ q. (order_in c.drop_clean_of.new.self.orders.items q).entries) e ∙ here.none
        | inr ne ↦ ap (λ (r : Ranking). r.entries) (here.others p ne)
            ∙ i.none p some (omega (arith, few, ne, c.new.ensures))
      ];
      len = here.len ∙ i.len;
      victims =
          subst (λ k. EvictsPools k old next) c.new.ensures
          (pools_more c.new.result c.loop-i.i old now next c.new.ensures i.victims here.victims);
      gives_up = gives_up_trans old now next i.gives_up here.gives_up;
    }

pub returns : goal.returns
returns c =
    let i = c.loop-i.invariant in
    let os = c.loop-i.self.orders.items in
    let all : c.loop-i.i ≡ length c.args.self.now.orders.items =
    omega (arith, c.loop-i-test.false, c.loop-i.auto.i-end, c.len-i-end.ensures) in
    record {
      none = all_dirty c.loop-i.store (cached_of c.loop-i.self) i.sound (λ p. elim (cases_lt 0 p) [
        | inr zero ↦ ap (λ (r : Ranking). r.entries) (order_nowhere os p (λ some. absurd (omega (arith, some, zero))))
        | inl some ↦ elim (cases_lt c.loop-i.i p) [
          | inr within ↦ i.none p some within
          | inl past ↦
              ap (λ (r : Ranking). r.entries)
              (order_nowhere os p
              (λ h. omega (arith, past, i.len, c.loop-i-test.false, c.len-i-end.ensures, c.args.self.now.orders.ok.0)))
        ]
      ]);
      victims =
          subst (λ k. EvictsPools k (holding c.args.store.now c.args.self.now) (holding c.loop-i.store c.loop-i.self))
          all i.victims;
      gives_up = i.gives_up;
      sound = i.sound;
    }
