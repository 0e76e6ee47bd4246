use Rattle.std.proofs.Common.{◌++◌, List, ap, map, ◌∙◌, rules, subst, sym}
use Rattle.iol_core.specs.Text.{bytes_of}
use Rattle.iol_arena.specs.State.{State}
use Rattle.iol_pool.specs.Pools.{Pool}
use Rattle.iol_hold.specs.Moves.{pool_meant}
use Rattle.iol_hold.specs.Texts.{text_of, bufs_of, AllReadable}
use Rattle.iol_hold.proofs.EmptyPools.{all_reclaimed_same}
use Rattle.iol_hold.proofs.Releases.{frees_none, frees_trans}
use Rattle.iol_sum.specs.Sums.{UsesEach}
use Rattle.iol_sum.proofs.KeptSums.{IsRight-keeps}
use Rattle.iol_sock.proofs.Sends.{sent_readable, sent_covers, sent_moves, text_sent, uses_same}
use Rattle.iol_sock.proofs.outgoing.send.Goals as goal

pub copy_all-requires-clause-readable : goal.copy_all-requires-clause-readable
copy_all-requires-clause-readable c =
    sent_readable c.in_ok-sent.sent c.take.new.self c.args.queue.now c.args.max c.in_ok-sent.ensures.cuts.given
    c.requires.covered c.in_ok-sent.ensures.cuts.shares c.requires.readable

pub sum_all-sum-requires-clause-readable : goal.sum_all-sum-requires-clause-readable
sum_all-sum-requires-clause-readable c =
    subst (AllReadable c.take.new.store) (sym c.slices.ensures)
    (sent_readable c.in_ok-sent.sent c.take.new.self c.args.queue.now c.args.max c.in_ok-sent.ensures.cuts.given
    c.requires.covered c.in_ok-sent.ensures.cuts.shares c.requires.readable)

pub release-requires : goal.release-requires
release-requires c =
    sent_covers (bufs_of c.take.new.self) (bufs_of c.in_ok-sent.sent) c.requires.covered
    c.in_ok-sent.ensures.cuts.shares

pub returns : goal.returns
returns c =
    let s = c.args.store.now in
    let t = c.take.new.store in
    let sent = c.in_ok-sent.sent in
    let shares = c.in_ok-sent.ensures.cuts.shares in
    record {
      sent = record {
        bytes = c.from_vec.ensures ∙ c.copy_all.ensures
            ∙ ap (λ w. w ++ bytes_of (text_of t sent)) c.in_ok-bytes.ensures.items
            ∙ ap bytes_of (text_sent s t sent c.args.queue.now c.args.max c.in_ok-sent.ensures.cuts.given shares.arena);
        rest = c.in_ok-sent.ensures.cuts.rest;
        few = c.in_ok-sent.ensures.cuts.left;
        releases = record {
          moves = sent_moves (bufs_of c.take.new.self) (bufs_of sent) shares c.release.ensures.moves;
          lists = c.release.ensures.lists ∙ ap (λ (ps : List Pool). map pool_meant ps) shares.pools;
          frees =
              frees_trans
              (frees_none s t (ap (λ (a : State). a.entries) shares.arena) (ap (λ (a : State). a.limit) shares.arena)
              shares.pools) c.release.ensures.frees c.release.ensures.moves.counts;
          reclaims =
              λ readable all. c.release.ensures.reclaims
              (sent_readable sent c.take.new.self c.args.queue.now c.args.max c.in_ok-sent.ensures.cuts.given
              c.requires.covered shares readable) (all_reclaimed_same s t shares.arena shares.pools all);
        };
        uses = record {
          sent = sent;
          cut = c.in_ok-sent.ensures.cuts.cut;
          uses = uses_same s t sent c.args.sums.now c.sum_all-sum.new.self shares.arena
              (subst (λ xs. UsesEach t c.args.sums.now xs c.sum_all-sum.new.self) c.slices.ensures
              c.sum_all-sum.ensures.uses);
        };
      };
      checksum = search (rules);
      right = IsRight-keeps c.take.new.store.arena c.release.new.store.arena c.sum_all-sum.new.self
          c.release.ensures.moves.stays.keeps c.sum_all-sum.ensures.right;
      err = tt;
    }
