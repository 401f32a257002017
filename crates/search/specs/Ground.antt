-- The job that a search's ground is made of. Assumes nothing.
use Rattle.search.specs.declared.Job.{Job}
use Rattle.search.specs.declared.Ground.{Ground}

abbrev pub job_of : Ground → Job
job_of x = record { shape = x.cabinet.shape; weight = x.weight; ceiling = x.ceiling }
