-- The first demand, proved: `demand1 : Demand1`, as `rules/specs/Demands.antt` states it. Of every memory, sound or not.
use Rattle.rules.specs.Demands.{Demand1}
use Rattle.kept.specs.Refusals.{start_refused, allocate_refused, look_up_refused, load_refused, store_refused, collect_refused}

pub demand1 : Demand1
demand1 = record {
  starts = start_refused;
  allocates = allocate_refused;
  looks_up = look_up_refused;
  loads = load_refused;
  stores = store_refused;
  collects = collect_refused;
}
