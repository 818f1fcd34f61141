use Rattle.std.proofs.Common.{◌+◌, ◌*◌}
use Rattle.py_exceptions.proofs.str_of.+str.Given as goal

abbrev pub decreases-push_payload_str : goal.decreases-push_payload_str
decreases-push_payload_str l = 7 * l.depth

abbrev pub decreases-push_str : goal.decreases-push_str
decreases-push_str l = 7 * l.depth + 1

abbrev pub decreases-push_said : goal.decreases-push_said
decreases-push_said l = 7 * l.depth + 2

abbrev pub decreases-push_line : goal.decreases-push_line
decreases-push_line l = 7 * l.depth + 2

abbrev pub decreases-push_line_in_file : goal.decreases-push_line_in_file
decreases-push_line_in_file l = 7 * l.depth + 2

abbrev pub decreases-push_found : goal.decreases-push_found
decreases-push_found l = 7 * l.depth + 3

abbrev pub decreases-push_key_said : goal.decreases-push_key_said
decreases-push_key_said l = 7 * l.depth + 4

abbrev pub decreases-push_os_said : goal.decreases-push_os_said
decreases-push_os_said l = 7 * l.depth + 4

abbrev pub decreases-push_syntax_said : goal.decreases-push_syntax_said
decreases-push_syntax_said l = 7 * l.depth + 4

abbrev pub decreases-push_said_by : goal.decreases-push_said_by
decreases-push_said_by l = 7 * l.depth + 5
