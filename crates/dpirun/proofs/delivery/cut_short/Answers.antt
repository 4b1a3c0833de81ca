use Rattle.dpirun.proofs.Sinks.{front_tried}
use Rattle.dpirun.proofs.delivery.cut_short.Goals as goal

pub returns-in-Failed-clause-front : goal.returns-in-Failed-clause-front
returns-in-Failed-clause-front g c = front_tried c.put_all.result _ _ _ c.put_all.ensures.ok c.put_all.ensures.err

pub returns-in-NoMemory-clause-front : goal.returns-in-NoMemory-clause-front
returns-in-NoMemory-clause-front g c =
    front_tried c.put_all-in-NoMemory.result _ _ _ c.put_all-in-NoMemory.ensures.ok c.put_all-in-NoMemory.ensures.err
