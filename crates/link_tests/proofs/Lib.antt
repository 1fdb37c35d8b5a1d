mod AbortReads
