use Rattle.std.proofs.Common.{lit<}
use Rattle.sharing.proofs.Picked.{smallest}
use Rattle.sharing.proofs.refusal.smallest_is_answered.Goals as goal

pub returns : goal.returns
returns c = record {
  smallest = smallest;
  ascend = record {
    cutting = λ addends. ((lit< tt, tt), (tt, tt));
    sharing = λ total weights. ((lit< tt, (lit< tt, tt)), ((lit< tt, tt), (tt, tt)));
    weighing = λ key objects. ((lit< tt, (lit< tt, tt)), ((lit< tt, tt), (tt, tt)));
  };
}
