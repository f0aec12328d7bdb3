use Rattle.std.proofs.Common.{◌≡◌, [], ◌∷◌, ◌++◌, rules}
use Rattle.miette_protocol.specs.rules.Reading.{Source}
use Rattle.miette_tree.specs.views.Attachments.{section_of}
use Rattle.miette_read.proofs.Sections.{more_sections}
use Rattle.miette_read.proofs.reports.sections_over.Goals as goal

pub loop-file-preserved : goal.loop-file-preserved
loop-file-preserved c =
    let l = c.loop-file in
    let pushed : c.push.new.self.items ≡ l.list.items ++ c.in_ok-section.section ∷ [] = search rules in
    let same : c.len.result ≡ l.file-index = search rules in
    record {
      count = search rules;
      made = more_sections (section_of (λ (it : Source). it)) l.list.items c.push.new.self.items
          c.in_ok-section.section c.args.marks.now c.args.files.now l.file-index c.len.result c.file-item.result
          pushed same c.in_ok-section.ensures c.loop-file-test.true c.file-item.is l.invariant.made;
    }
