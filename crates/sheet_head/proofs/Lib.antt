mod HeadNumbers
