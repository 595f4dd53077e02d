-- Two different jobs differ in task or in release.
use Rattle.std.specs.Prelude.{◌≡◌, ◌≢◌}
use Rattle.policy.specs.declared.job.Job.{Job}

pub differ : (x y : Job) → (x ≢ y) → x.task ≡ y.task → x.release ≢ y.release
differ x y ne e f = ne (λ i. record { task = e i; release = f i })
