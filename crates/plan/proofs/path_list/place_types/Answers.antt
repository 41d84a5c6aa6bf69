use Rattle.std.proofs.Common.{rules}
use Rattle.plan.specs.PathsLemmas.{types_decided}
use Rattle.plan.proofs.path_list.place_types.Goals as goal

pub returns : goal.returns
returns c = types_decided (λ n r p q k. search rules) c.args.numbers c.try_map.result (search rules) c.try_map.ensures.ok c.try_map.ensures.err
