use Rattle.std.proofs.Common.{arith}
use Rattle.codes.specs.Classes.{class_of}
use Rattle.codes.proofs.Tables.{class_table, in_one_list}
use Rattle.codes.proofs.classes.class_of.Goals as goal

pub returns : goal.returns
unfolding class_of
returns c =
    record {
      value = class_table c.args.code (omega arith);
      single = in_one_list c.args.code (omega arith);
    }
