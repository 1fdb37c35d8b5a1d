-- The page is read where it breaks no rule.
use Rattle.std.proofs.Common.{rules, ◌≡◌, FitsSigned, w64, refl, sym, ◌∙◌}
use Rattle.std.proofs.lemmas.Int.{to_z-of_z}
use Rattle.bulk_ops.specs.declared.bulk_results.PageFault.TheVariants as fault
use Rattle.bulk_ops.specs.declared.bulk_results.PageVerdict.{PageVerdict}
use Rattle.bulk_ops.specs.declared.bulk_results.PageVerdict.TheVariants.{Breaks, Last, LeavesOpen}
use Rattle.bulk_ops.proofs.ReadPages.{reads_last, reads_open, taken_within}
use Rattle.bulk_ops.proofs.bulk_results.BulkProgress.read.Goals as goal

pub take_page-requires : goal.take_page-requires
take_page-requires g c =
    taken_within g.R.BulkWriteResult.tells c.args.batch c.errors_only.result c.args.first c.args.self.now (record c.args.self.now { seen = c.verdict.new.seen }) c.args.page c.in_ok-found.found c.errors_only.ensures
    c.in_ok-found.ensures refl Last c.in-Last.is (λ misplaced. let e : ◌≡◌ {A = PageVerdict} Last (Breaks fault.Misplaced) = misplaced in cc)

pub take_page-requires-in-LeavesOpen : goal.take_page-requires-in-LeavesOpen
take_page-requires-in-LeavesOpen g c =
    taken_within g.R.BulkWriteResult.tells c.args.batch c.errors_only.result c.args.first c.args.self.now (record c.args.self.now { seen = c.verdict.new.seen }) c.args.page c.in_ok-found.found c.errors_only.ensures
    c.in_ok-found.ensures refl LeavesOpen c.in-LeavesOpen.is (λ misplaced. let e : ◌≡◌ {A = PageVerdict} LeavesOpen (Breaks fault.Misplaced) = misplaced in cc)

pub returns-in_ok-take_page-in-Last-clause-pages : goal.returns-in_ok-take_page-in-Last-clause-pages
returns-in_ok-take_page-in-Last-clause-pages g c =
    reads_last g.R.BulkWriteResult.tells c.args.batch c.errors_only.result c.args.first c.args.self.now (record c.args.self.now { seen = c.verdict.new.seen }) c.args.page c.in_ok-found.found c.errors_only.ensures
    c.in_ok-found.ensures refl c.take_page.new.self c.in_ok-take_page-in-Last.ensures.takes c.in-Last.is

pub returns-in_ok-take_page-in-LeavesOpen-clause-pages : goal.returns-in_ok-take_page-in-LeavesOpen-clause-pages
returns-in_ok-take_page-in-LeavesOpen-clause-pages g c =
    let fits : FitsSigned w64 c.args.page.cursor = search rules in
    reads_open g.R.BulkWriteResult.tells c.args.batch c.errors_only.result c.args.first c.args.self.now (record c.args.self.now { seen = c.verdict.new.seen }) c.args.page c.in_ok-found.found c.errors_only.ensures
    c.in_ok-found.ensures refl c.take_page-in-LeavesOpen.new.self c.in_ok-take_page-in-LeavesOpen.ensures.takes _ c.args.page.namespace c.in-LeavesOpen.is (to_z-of_z w64 c.args.page.cursor fits) refl
