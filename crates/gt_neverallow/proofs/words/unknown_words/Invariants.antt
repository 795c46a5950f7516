use Rattle.std.proofs.Common.{◌≡◌, take}
use Rattle.gt_findings.specs.LineWords.{IsLineWords}
use Rattle.gt_neverallow.specs.Breaking.{AreUnknown}
use Rattle.gt_neverallow.proofs.words.unknown_words.Given as goal

abbrev pub invariant-nevers : goal.invariant-nevers
invariant-nevers l = record {
  found : AreUnknown l.text (take l.never-index l.nevers) l.found.items;
  words : IsLineWords l.words;
  text : l.words.bytes.now ≡ l.text;
}
