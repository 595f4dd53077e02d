use Rattle.theory.proofs.Existence.{response_exists}
use Rattle.theory.proofs.WorstExists.{worst_exists}
use Rattle.theory.proofs.facts.analysis_exists.Goals as goal

pub returns : goal.returns
returns c = record {
  response = λ s o L i a checked law busy here lt. response_exists s o checked law i a here L busy lt;
  worst = λ s o L i checked law busy here. worst_exists s o L i checked law busy here;
}
