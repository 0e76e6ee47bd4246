use Rattle.flash_cgi.proofs.Beside.{others_leave, files_left, from_front, gone, received}
use Rattle.flash_cgi.proofs.laws.others_receive.Goals as goal

pub returns : goal.returns
returns c = record {
  leave = others_leave c.each_step_leaves_the_rest.ensures;
  files = files_left c.each_step_leaves_the_rest.ensures;
  front = λ m n d p fd e r order step other opened.
      from_front c.each_step_leaves_the_rest.ensures c.others_leave_pipes.ensures m n d p fd order opened e r step
      other;
  gone = λ m n p process_slot unseen left jobs was goes. gone m n p process_slot left jobs goes unseen was;
  received = received;
}
