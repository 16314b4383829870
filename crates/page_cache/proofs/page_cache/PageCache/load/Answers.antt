use Rattle.std.proofs.Common.{refl, rules, sym, subst, ◌∙◌}
use Rattle.record_file.proofs.Records.{record_at-kept}
use Rattle.page_cache.specs.Pages.{IsPage}
use Rattle.page_cache.proofs.Agreement.{agrees_loaded, agrees_same}
use Rattle.page_cache.proofs.Keeping.{keeps_loaded, keeps_missed, told_kept}
use Rattle.page_cache.proofs.RecordInPage.{record_in-is}
use Rattle.page_cache.proofs.page_cache.PageCache.load.Goals as goal

pub returns-clause-record : goal.returns-clause-record
returns-clause-record g c reads =
    c.read_record-2.ensures ∙ record_in-is (g.D.Disk.reads c.args.disk.now) c.args.key c.read.new.self c.requires.file
    (c.in_ok-read.ensures.bytes reads (search rules))

pub returns-clause-agrees : goal.returns-clause-agrees
returns-clause-agrees g c reads agrees =
    let old = g.D.Disk.reads c.args.disk.now in
    let new = g.D.Disk.reads c.read.new.disk in
    let is = subst (λ page. IsPage old page c.read.new.self) (sym c.of.ensures) (c.in_ok-read.ensures.bytes reads (search rules)) in
    agrees_same old new c.keep.new.self (λ key. record_at-kept key old new c.in_ok-read.ensures.only_reads.keeps)
    (agrees_loaded old c.of.result c.read.new.self c.args.self.now c.keep.new.self c.keep.result agrees is c.keep.ensures.kept c.keep.ensures.refused)

pub returns-clause-pages : goal.returns-clause-pages
returns-clause-pages g c none =
    keeps_loaded c.args.key c.of.result c.read.new.self c.args.self.now c.keep.new.self c.keep.result c.of.ensures c.keep.ensures.kept c.keep.ensures.refused

pub returns-in_err-read-clause-pages : goal.returns-in_err-read-clause-pages
returns-in_err-read-clause-pages g c none = keeps_missed c.args.key c.args.self.now c.args.self.now none refl

pub returns-in_err-rec-clause-pages : goal.returns-in_err-rec-clause-pages
returns-in_err-rec-clause-pages g c none = keeps_missed c.args.key c.args.self.now c.args.self.now none refl

pub returns-then-not-branch-clause-pages : goal.returns-then-not-branch-clause-pages
returns-then-not-branch-clause-pages g c none = keeps_missed c.args.key c.args.self.now c.args.self.now none refl

pub returns-clause-told : goal.returns-clause-told
returns-clause-told g c none =
    told_kept c.args.key c.of.result c.read.new.self c.args.self.now c.keep.new.self c.keep.result c.of.ensures none c.keep.ensures.kept
    c.keep.ensures.refused
