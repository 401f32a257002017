-- `Line::word` meets its contract: the copy stores the word.
-- Assumes nothing.
use native.Mathlib.Omega.{arith}
use mathlib.Core.Path.{refl, sym, ◌∙◌}
use lib.ListN.{length}
use lib.Seq.{sets-eq, take_all}
use Rattle.std.proofs.lemmas.Slice.{put_mid-paste}
use Rattle.jobline.proofs.write.Line.word.Goals as goal

pub returns : goal.returns
returns c =
    let line = c.args.self.now in
    let word = c.args.word.now in
    record {
      same_buffer = refl;
      put =
          record {
            bytes =
                put_mid-paste line.at _ line.out.now _ word _ c.copy_from_slice.ensures.after (omega arith) refl
                ∙ rw (take_all (length word) word (omega arith)) (sym (sets-eq word line.out.now line.at c.requires));
            end = refl;
          };
    }
