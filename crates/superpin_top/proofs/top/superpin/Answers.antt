use Rattle.std.proofs.Common.{rules}
use Rattle.superpin_top.proofs.top.superpin.Goals as goal

pub returns : goal.returns
returns g c =
    let a = c.answer_attempt.ensures.answered _ _ _ _ _ _ c.attempt-tried.ensures.tried in
    record {
      words = a.words;
      file_fault = a.file_fault;
      input_fault = a.input_fault;
      output_fault = a.output_fault;
      report_fault = a.report_fault;
      ended = a.ended;
      other_port = a.other_port;
      pacer = search rules;
      uncut = search rules;
      early = a.early;
      outcome = a.outcome;
      headline = a.headline;
      sliced = a.sliced;
      causes = a.causes;
      front = a.front;
      error_front = a.error_front;
      demo = λ n wants. c.answer_attempt.ensures.demo n _ _ (c.attempt-tried.ensures.demo n wants) c.attempt-tried.ensures.tried.faults;
    }
