use Rattle.std.proofs.Common.{ℕ, ◌+◌, ◌*◌, [], ◌∷◌, ◌++◌, length, sym, ap, ◌∙◌, arith}
use Rattle.iol_arena.specs.Chunks.{free_pages, retired_pages}
use Rattle.iol_hold.specs.StoreState.{Stored}
use Rattle.iol_kernel.specs.Report.{chunks_in, reports_of}
use Rattle.iol_kernel.proofs.State.Reports.{reports-more, reports-same, same_report, some_pages, no_pages}
use Rattle.iol_kernel.proofs.report.report_pools.Goals as goal

pub overflow_cast-n : goal.overflow_cast-n
overflow_cast-n c = omega (arith, c.requires, c.loop-n-test.true, c.len-count.ensures, ap length c.pools.ensures)

pub loop-n-preserved-then-report-eq0 : goal.loop-n-preserved-then-report-eq0
loop-n-preserved-then-report-eq0 c =
    let s : Stored = c.args.store.now in
    let n : ℕ = c.loop-n.n in
    let pages = c.report_pool-report.ensures.pages ∙ ap (λ p. 16 * length (chunks_in s p)) c.new.ensures in
    record {
      so_far = c.loop-n.invariant.so_far
          ∙ sym (reports-same s n (no_pages s (n + 1) c.report_pool-report.result.pages pages c.if-report-eq0.true));
      room = omega (arith, c.loop-n.invariant.room);
    }

pub loop-n-preserved : goal.loop-n-preserved
loop-n-preserved c =
    let s : Stored = c.args.store.now in
    let n : ℕ = c.loop-n.n in
    let r = c.report_pool-report in
    let is = c.new.ensures in
    let pages = r.ensures.pages ∙ ap (λ p. 16 * length (chunks_in s p)) is in
    let same =
    same_report s (n + 1) r.result (r.ensures.pool ∙ is) pages (r.ensures.free
    ∙ ap (λ p. length (free_pages s.arena (chunks_in s p))) is) (r.ensures.retired
    ∙ ap (λ p. length (retired_pages s.arena (chunks_in s p))) is) in
    record {
      so_far = c.push_reserved.ensures.items ∙ ap (λ l. l ++ r.result ∷ []) c.loop-n.invariant.so_far
          ∙ ap (λ x. reports_of s n ++ x ∷ []) same
          ∙ sym (reports-more s n (some_pages s (n + 1) r.result.pages pages c.if-report-eq0.false));
      room = omega (
        arith,
        c.loop-n.invariant.room,
        c.push_reserved.ensures.len,
        c.push_reserved.ensures.capacity,
        c.loop-n-test.true,
      );
    }
