use Rattle.hd_world.proofs.Headers.{header_moments}
use Rattle.hd_world.proofs.disk_laws.a_stop_in_the_opening_of_a_header_leaves_as_much.Goals as goal

pub returns : goal.returns
returns c = λ v digest found old new result len settled left found_is ran. header_moments v digest len found old new result settled left found_is ran
