-- How the program is used: the answer to --help.
use Rattle.std.specs.Prelude.{ℕ, List, ◌++◌, codes}

abbrev pub help_text : List ℕ
help_text =
    codes "usage: rio COMMAND, with one of these commands:\n"
    ++ codes "\n"
    ++ codes "replay < SCRIPT                    the trace of a script: what each port sent and got\n"
    ++ codes "check < TRACE                      whether a trace after its set-up lines is lawful, or why not\n"
    ++ codes "decode < CHARACTERS                the symbols and packets in the characters of one direction\n"
    ++ codes "enumerate NODE < SCRIPT            what an endpoint asks that numbers the fabric, and its map\n"
    ++ codes "contest NODE NODE NUMBER < SCRIPT  how two endpoints number one fabric, by this order of turns\n"
    ++ codes "io < ACCESSES                      what becomes of reads and writes of memory over the links\n"
    ++ codes "soak NUMBER                        the counts of 2,000 packets, of the script of this number\n"
    ++ codes "\n"
    ++ codes "Standard input is read to its end. The exit status is 0 if all went well; man rio, or\n"
    ++ codes "docs/running.md, has the others and the lines of each input.\n"
